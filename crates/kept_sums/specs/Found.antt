-- Sums that are found for an objective.
use Rattle.std.specs.Prelude.{◌≡◌, ◌⊎◌, Bool, List, false, true}
use Rattle.std.specs.List.{Contains}
use Rattle.window_sums.specs.Slices.{CountedDays}
use Rattle.office_history.specs.declared.Measure.{Measure}
use Rattle.kept_sums.specs.Objectives.{KeptObjectives, counted, key_by, keys_by, pooled}
use Rattle.kept_sums.specs.declared.kept.ObjectiveSums.{ObjectiveSums}

-- sums that are kept under the key of an objective
pub record IsFound (pool : Bool) (kept : List ObjectiveSums) (m : Measure) (sums : CountedDays) :
    Type 0 where
  pub entry : ObjectiveSums
  pub there : Contains kept entry
  pub alike : key_by pool entry.measure ≡ key_by pool m
  pub is : entry.sums ≡ sums

-- an objective has no sums of its SLO, or none that are pooled
abbrev pub HasNoOwn : KeptObjectives → Measure → Type 0
HasNoOwn sums m = Contains (keys_by false sums.own) (counted m) → ⊥

abbrev pub HasNoPooled : KeptObjectives → Measure → Type 0
HasNoPooled sums m = Contains (keys_by true sums.pooled) (pooled m) → ⊥

-- the sums of an objective: those of its SLO, and where there are none, pooled ones
abbrev pub IsTold : KeptObjectives → Measure → CountedDays → Type 0
IsTold kept m sums = IsFound false kept.own m sums
    ⊎ (HasNoOwn kept m × IsFound true kept.pooled m sums)
