use Rattle.std.proofs.Common.{◌≡◌, sym, subst, ap, ◌∙◌}
use Rattle.std.specs.Result.{IfOk}
use Rattle.yaml_terms.specs.Flow.{flow_at}
use Rattle.yaml_lines.specs.FlowView.{flow_view}
use Rattle.yaml_terms.specs.declared.Part.{Part}
use Rattle.yaml_lines.proofs.flow.Flow.within.Goals as goal

pub returns-in-Want : goal.returns-in-Want
returns-in-Want c = subst (λ (p : Part). IfOk c.in_want.result (λ s. flow_view s ≡ flow_at p
    (flow_view c.args.self) c.args.byte c.args.next)) (sym c.in-Want.is) c.in_want.ensures

pub returns-in-Plain : goal.returns-in-Plain
returns-in-Plain c = subst (λ (p : Part). IfOk c.in_plain.result (λ s. flow_view s ≡ flow_at p
    (flow_view c.args.self) c.args.byte c.args.next)) (sym c.in-Plain.is) c.in_plain.ensures

pub returns-in-Single : goal.returns-in-Single
returns-in-Single c = subst (λ (p : Part). IfOk c.in_single.result (λ s. flow_view s ≡ flow_at p
    (flow_view c.args.self) c.args.byte c.args.next)) (sym c.in-Single.is) c.in_single.ensures

pub returns-in-Double : goal.returns-in-Double
returns-in-Double c = subst (λ (p : Part). IfOk c.in_double.result (λ s. flow_view s ≡ flow_at p
    (flow_view c.args.self) c.args.byte c.args.next)) (sym c.in-Double.is) c.in_double.ensures

pub returns-in-Doubled : goal.returns-in-Doubled
returns-in-Doubled c = c.at.ensures ∙ ap
    (λ (p : Part). flow_at p (flow_view c.args.self) c.args.byte c.args.next) (sym c.in-Doubled.is)

pub returns-in-After : goal.returns-in-After
returns-in-After c = c.in_after.ensures ∙ ap
    (λ (p : Part). flow_at p (flow_view c.args.self) c.args.byte c.args.next) (sym c.in-After.is)

pub returns-in-Broken : goal.returns-in-Broken
returns-in-Broken c = c.in_broken.ensures ∙ ap
    (λ (p : Part). flow_at p (flow_view c.args.self) c.args.byte c.args.next) (sym c.in-Broken.is)

pub returns-in-Closed : goal.returns-in-Closed
returns-in-Closed c = c.in_closed.ensures ∙ ap
    (λ (p : Part). flow_at p (flow_view c.args.self) c.args.byte c.args.next) (sym c.in-Closed.is)

pub returns-in-Over : goal.returns-in-Over
returns-in-Over c =
    ap (λ (p : Part). flow_at p (flow_view c.args.self) c.args.byte c.args.next) (sym c.in-Over.is)
