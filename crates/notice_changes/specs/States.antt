-- The states of bindings.
use Rattle.std.specs.Prelude.{◌≡◌, List}
use Rattle.std.specs.List.{AllByRecursion}
use Rattle.burn_core.specs.declared.State.{State}
use Rattle.catalog_terms.specs.declared.Binding.{Binding}

-- a binding has but one state among these, however often it is there
pub record AreByBinding (states : List (Binding × State)) : Type 0 where
  pub state_of : Binding → State
  pub each : AllByRecursion (λ (s : Binding × State). s.1 ≡ state_of s.0) states
