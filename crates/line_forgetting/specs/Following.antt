-- Lines that forget first agree with the sums that follow.
use Rattle.std.specs.Prelude.{◌≡◌, ℕ, ◌<◌, Bool, List}
use Rattle.sample_book.specs.declared.Exclusion.{Exclusion}
use Rattle.sample_book.specs.declared.Row.{Row}
use Rattle.sample_book.specs.declared.RowVerdict.{RowVerdict}
use Rattle.window_sums.specs.Slices.{CountedDays, counts_of, width_of}
use Rattle.alert_line.specs.Line.{Agrees, Line}
use Rattle.office_history.specs.declared.Measure.{Measure}
use Rattle.kept_sums.specs.Replacing.{HasMoved}
use Rattle.kept_sums.specs.Walks.{IsChanged}
use Rattle.line_forgetting.specs.Touched.{Forgets}

-- two sums of an objective
pub record AreOf (m : Measure) (old new : CountedDays) : Type 0 where
  pub some : 0 < width_of m.method
  pub before : old.method ≡ m.method
  pub after : new.method ≡ m.method

-- A line agrees with the sums that follow a batch, where it agreed with those before and has
-- forgotten what is near the slices of the rows that move.
abbrev pub LinesFollowBatches : Type 0
LinesFollowBatches =
    (m : Measure) (rows : List Row) (verdicts : List RowVerdict) (before after : Line)
    (old new : CountedDays) → AreOf m old new →
    ((slice : ℕ) → (HasMoved m rows verdicts slice → ⊥) → counts_of new slice ≡ counts_of old slice)
    →
    Forgets (HasMoved m rows verdicts) (width_of m.method) before after →
    Agrees before old → Agrees after new

-- So it does with those that follow an exclusion or a lifting.
abbrev pub LinesFollowExclusions : Type 0
LinesFollowExclusions =
    (m : Measure) (made : List (Exclusion × Bool)) (value : Exclusion) (rows : List Row)
    (before after : Line) (old new : CountedDays) → AreOf m old new →
    ((slice : ℕ) → (IsChanged m made value rows slice → ⊥) →
    counts_of new slice ≡ counts_of old slice) →
    Forgets (IsChanged m made value rows) (width_of m.method) before after →
    Agrees before old → Agrees after new
