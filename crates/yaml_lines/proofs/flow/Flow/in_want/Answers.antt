use Rattle.std.proofs.Common.{ℕ, List, sym, ap, ◌∙◌}
use Rattle.yaml_terms.specs.Flow.{in_want, flow_item, flow_fault}
use Rattle.yaml_lines.specs.FlowView.{flow_view}
use Rattle.yaml_terms.specs.declared.ProfileFault.{ProfileFault}
use Rattle.yaml_terms.specs.declared.Part.TheVariants.{Single, Double, Plain, Broken}
use Rattle.yaml_lines.proofs.FlowSteps.{want_blank, want_start, want_none}
use Rattle.yaml_lines.proofs.flow.Flow.in_want.Goals as goal

pub returns-then-is_blank_byte : goal.returns-then-is_blank_byte
returns-then-is_blank_byte c = sym (want_blank (flow_view c.args.self) c.args.byte c.args.next
    (sym c.is_blank_byte.ensures ∙ c.if-is_blank_byte.true))

pub returns-then-byte-eq93 : goal.returns-then-byte-eq93
returns-then-byte-eq93 c = c.at.ensures
    ∙ ap (λ (n : ℕ). in_want (flow_view c.args.self) n c.args.next) (sym c.if-byte-eq93.true)

pub returns-then-byte-eq39 : goal.returns-then-byte-eq39
returns-then-byte-eq39 c =
    c.with_text.ensures ∙ ap (λ (t : List ℕ). flow_item (flow_view c.args.self) Single t)
    c.new.ensures.items
    ∙ ap (λ (n : ℕ). in_want (flow_view c.args.self) n c.args.next) (sym c.if-byte-eq39.true)

pub returns-then-byte-eq34 : goal.returns-then-byte-eq34
returns-then-byte-eq34 c =
    c.with_text-then-byte-eq34.ensures ∙ ap (λ (t : List ℕ).
    flow_item (flow_view c.args.self) Double t) c.new-then-byte-eq34.ensures.items
    ∙ ap (λ (n : ℕ). in_want (flow_view c.args.self) n c.args.next) (sym c.if-byte-eq34.true)

pub returns-in_ok-text : goal.returns-in_ok-text
returns-in_ok-text c =
    c.with_text-then-is_flow_start.ensures
    ∙ ap (λ (t : List ℕ). flow_item (flow_view c.args.self) Plain t) c.in_ok-text.ensures.items
    ∙ sym (want_start (flow_view c.args.self) c.args.byte
    c.args.next (sym c.is_blank_byte.ensures ∙ c.if-is_blank_byte.false) c.if-byte-eq93.false
    c.if-byte-eq44.false c.if-byte-eq39.false c.if-byte-eq34.false
    (sym c.is_flow_start.ensures ∙ c.if-is_flow_start.true))

pub returns-else-is_flow_start : goal.returns-else-is_flow_start
returns-else-is_flow_start c =
    c.with_fault-else-is_flow_start.ensures
    ∙ ap (λ (w : ProfileFault). flow_fault (flow_view c.args.self) Broken w) c.byte_fault.ensures
    ∙ sym (want_none (flow_view c.args.self) c.args.byte
    c.args.next (sym c.is_blank_byte.ensures ∙ c.if-is_blank_byte.false) c.if-byte-eq93.false
    c.if-byte-eq44.false c.if-byte-eq39.false c.if-byte-eq34.false
    (sym c.is_flow_start.ensures ∙ c.if-is_flow_start.false))
