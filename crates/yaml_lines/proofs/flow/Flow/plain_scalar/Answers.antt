use Rattle.std.proofs.Common.{List, ℕ, true, ap, ◌∙◌}
use Rattle.yaml_terms.specs.Flow.{colon_end}
use Rattle.yaml_lines.proofs.FlowSteps.{same_parts, scalar_more}
use Rattle.yaml_lines.proofs.flow.Flow.plain_scalar.Goals as goal

pub returns : goal.returns
returns c =
    same_parts c.args.part _ _ _ _ _ _ c.new.ensures.items
    (scalar_more c.args.self.items.items c.push.new.self.items c.of.result c.args.text.items true
    c.in_ok-push.ensures.items c.of.ensures)
    (c.colon_end-fault.ensures
    ∙ ap (λ (t : List ℕ). colon_end c.args.self.fault t) c.deref.ensures.value)
