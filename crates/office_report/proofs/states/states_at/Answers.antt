use Rattle.std.proofs.Common.{◌≡◌, ◌∙◌, List, IfOk, ap, subst}
use Rattle.burn_core.specs.declared.State.{State}
use Rattle.catalog_terms.specs.declared.Binding.{Binding}
use Rattle.catalog_terms.specs.Bindings.{bindings}
use Rattle.office_report.proofs.StateLemmas.{states_stand}
use Rattle.office_report.proofs.states.states_at.Goals as goal

pub returns-clause-states : goal.returns-clause-states
returns-clause-states c =
    subst (λ (to : List (Binding × State)). IfOk c.states_of.result (λ states. states.items ≡ to))
    (states_stand c.args.core.now.office c.args.at c.deref.result.now
    (c.deref.ensures.value ∙ c.in_ok-bindings.ensures ∙ ap bindings c.catalog.ensures))
    c.states_of.ensures.states
