-- Laws of steps.
use Rattle.std.specs.Prelude.{◌≡◌, ℕ, ◌<◌, List, [], ◌∷◌, ◌++◌, length, Option}
use Rattle.std.specs.List.{AllByRecursion}
use Rattle.record_form.specs.declared.Entry.{Entry}
use Rattle.record_form.specs.declared.Outcome.{Outcome}
use Rattle.record_form.specs.declared.Request.{Request}
use Rattle.office_history.specs.History.{Office}
use Rattle.office_history.specs.Outcomes.{IsOutcome}
use Rattle.office_counter.specs.Steps.{Comes, Standing, Step}

-- what a request comes to is its outcome
abbrev pub ComesToItsOutcome : Type 0
ComesToItsOutcome =
    (o : Office) (reading : ℕ) (request : Request) (outcome : Outcome) (made : Option Entry)
    → Comes o reading request outcome made → IsOutcome o reading request outcome

-- each place is below those behind it
abbrev pub Rise : List ℕ → Type 0
Rise [] = Unit {0}
Rise (place ∷ places) = AllByRecursion (λ later. place < later) places × Rise places

-- The own places rise, so none stands twice, and each is one of the history.
pub record IsOwned (s : Standing) : Type 0 where
  pub rise : Rise s.own
  pub within : AllByRecursion (λ place. place < length s.office.history) s.own

-- a step keeps the own places so
abbrev pub OwnPlacesStay : Type 0
OwnPlacesStay =
    (old : Standing) (reading : ℕ) (request : Request) (outcome : Outcome) (new : Standing)
    → Step old reading request outcome new → IsOwned old → IsOwned new

-- what was seen is the front of what is seen, over the same origin
pub record Extends (old new : Office) : Type 0 where
  pub origin : new.origin ≡ old.origin
  pub more : List Entry
  pub history : new.history ≡ old.history ++ more

abbrev pub StepsExtend : Type 0
StepsExtend =
    (old : Standing) (reading : ℕ) (request : Request) (outcome : Outcome) (new : Standing)
    → Step old reading request outcome new → Extends old.office new.office
