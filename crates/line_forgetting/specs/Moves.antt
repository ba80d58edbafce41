-- At which minutes the rows of an indicator move that a batch puts.
use Rattle.std.specs.Prelude.{◌≡◌, ℕ, ◌-◌, ◌<◌, ◌≤◌, ◌==◌, ◌&&◌, nat_le, true, List, Some}
use Rattle.std.specs.Prelude.{slice_get, if◌then◌else◌}
use Rattle.sample_book.specs.declared.Row.{Row}
use Rattle.sample_book.specs.declared.RowVerdict.{RowVerdict}
use Rattle.sample_book.specs.Counting.{is_of}
use Rattle.sample_book.specs.History.{is_put}
use Rattle.line_forgetting.specs.Touched.{IsInRun}
use Rattle.line_forgetting.specs.declared.moves.IndicatorMoves.{IndicatorMoves}
use Rattle.line_forgetting.specs.declared.moves.MovedMinutes.{MovedMinutes}
use Rattle.line_forgetting.specs.declared.moves.MovedMinutes.TheVariants.{Nothing, Scattered}
use Rattle.line_forgetting.specs.declared.moves.MovedMinutes.TheVariants.{Stretch}

-- a row of the indicator that moves has this minute
pub record IsMovedMinute (sli : List ℕ) (rows : List Row) (verdicts : List RowVerdict)
    (minute : ℕ) :
    Type 0 where
  pub place : ℕ
  pub row : Row
  pub verdict : RowVerdict
  pub here : slice_get rows place ≡ Some row
  pub judged : slice_get verdicts place ≡ Some verdict
  pub moved : (is_of sli row && is_put verdict) ≡ true
  pub is : row.minute ≡ minute

-- so has one among the first rows of a batch
pub record IsMovedSoFar (sli : List ℕ) (rows : List Row) (verdicts : List RowVerdict)
    (at minute : ℕ) :
    Type 0 where
  pub moved : IsMovedMinute sli rows verdicts minute
  pub before : moved.place < at

-- these are the minutes from the first to the last, each of them
pub record AreFilled (these : ℕ → Type 0) (first last : ℕ) : Type 0 where
  pub order : first ≤ last
  pub within : (minute : ℕ) → these minute → IsInRun first last minute
  pub filled : (minute : ℕ) → IsInRun first last minute → these minute

-- what is told of minutes holds of these
abbrev pub AreTold : (ℕ → Type 0) → MovedMinutes → Type 0
AreTold these Nothing = (minute : ℕ) → these minute → ⊥
AreTold these (Stretch first last) = AreFilled these first last
AreTold these Scattered = Unit {0}

-- what is told of an indicator holds of a batch
abbrev pub IsToldOf : List Row → List RowVerdict → IndicatorMoves → Type 0
IsToldOf rows verdicts told = AreTold (IsMovedMinute told.sli rows verdicts) told.minutes

-- a stretch of minutes with one more, where that is in it or beside it
abbrev pub lengthened : ℕ → ℕ → ℕ → MovedMinutes
lengthened first last minute =
    if nat_le first minute && nat_le minute last then Stretch first last
    else if minute - last == 1 then Stretch first minute
    else if first - minute == 1 then Stretch minute last else Scattered

-- what is told of minutes with one more
abbrev pub with_minute : MovedMinutes → ℕ → MovedMinutes
with_minute Nothing minute = Stretch minute minute
with_minute (Stretch first last) minute = lengthened first last minute
with_minute Scattered minute = Scattered
