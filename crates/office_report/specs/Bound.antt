-- How the alert of a binding stands, seen from the binding.
use Rattle.std.specs.Prelude.{ℕ, unwrap_or}
use Rattle.burn_core.specs.declared.State.{State}
use Rattle.burn_core.specs.declared.State.TheVariants.{Quiet}
use Rattle.catalog_terms.specs.declared.Binding.{Binding}
use Rattle.office_history.specs.History.{Office}
use Rattle.history_answers.specs.States.{binding_state}

-- a binding with its state at a minute
abbrev pub with_state : Office → ℕ → Binding → Binding × State
with_state o at b = (b, unwrap_or (binding_state o b at) Quiet)
