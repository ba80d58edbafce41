-- What a line has to forget where the counts of some slices change, and no more.
use Rattle.std.specs.Prelude.{◌≡◌, ◌≢◌, ℕ, ◌+◌, ◌*◌, ◌/◌, ◌<◌, ◌≤◌, ◌&&◌, nat_le, nat_lt}
use Rattle.std.specs.Prelude.{Bool, true, false, Option, Some, None, List, slice_get, ◌⊎◌}
use Rattle.slo_limits.specs.declared.TheConstants.{MAX_MINUTE, RANGE_MINUTES}
use Rattle.sample_book.specs.declared.Exclusion.{Exclusion}
use Rattle.sample_book.specs.declared.Row.{Row}
use Rattle.sample_book.specs.declared.RowVerdict.{RowVerdict}
use Rattle.slice_method.specs.declared.Counts.{Counts}
use Rattle.burn_core.specs.Alert.{reach_of}
use Rattle.window_sums.specs.Slices.{CountedDays, counts_of, leaf_at, no_counts, slices_a_day}
use Rattle.window_sums.specs.Slices.{width_of}
use Rattle.office_history.specs.declared.Measure.{Measure}
use Rattle.kept_sums.specs.Replacing.{HasMoved}
use Rattle.kept_sums.specs.Sums.{row_counts}
use Rattle.kept_sums.specs.Walks.{made_on}
use Rattle.line_forgetting.specs.declared.run.SliceRun.{SliceRun}
use Rattle.alert_line.specs.Line.{Agrees, Line, SameAlert, knowledge}

-- A minute is near a slice [l, l + width) where its condition may look at it: it lies in
-- [l + width, l + reach + 1).
abbrev pub is_near : ℕ → ℕ → ℕ → ℕ → Bool
is_near width reach slice minute =
    nat_le (slice * width + width) minute && nat_lt minute (slice * width + reach + 1)

-- nothing is known near a slice
abbrev pub IsClear : Line → ℕ → ℕ → Type 0
IsClear line width slice =
    (minute : ℕ) (holds : Bool) → knowledge line minute ≡ Some holds →
    is_near width (reach_of line.rule) slice minute ≡ false

-- a minute is near no touched slice
abbrev pub IsApart : (ℕ → Type 0) → ℕ → ℕ → ℕ → Type 0
IsApart touched width reach minute =
    (slice : ℕ) → touched slice → is_near width reach slice minute ≡ false

-- A line has forgotten at most what is near touched slices.
pub record ForgetsOnly (touched : ℕ → Type 0) (width : ℕ) (before after : Line) : Type 0 where
  pub alert : SameAlert before after
  pub kept : (minute : ℕ) (holds : Bool) → knowledge before minute ≡ Some holds →
      IsApart touched width (reach_of before.rule) minute → knowledge after minute ≡ Some holds
  pub learnt_nothing : (minute : ℕ) (holds : Bool) → knowledge after minute ≡ Some holds →
      knowledge before minute ≡ Some holds
  pub agrees : (sums : CountedDays) → Agrees before sums → Agrees after sums

-- It has forgotten just that.
pub record Forgets (touched : ℕ → Type 0) (width : ℕ) (before after : Line) : Type 0 where
  pub only : ForgetsOnly touched width before after
  pub clear : (slice : ℕ) → touched slice → IsClear after width slice

-- a slice of a run of neighbours
pub record IsInRun (first last slice : ℕ) : Type 0 where
  pub from : first ≤ slice
  pub to : slice ≤ last

-- Where the slices near the minutes that a line knows have the same leaves as before, it agrees
-- with the new sums as with the old ones.
abbrev pub LinesAgreeAgain : Type 0
LinesAgreeAgain =
    (line : Line) (old new : CountedDays) → 0 < width_of old.method →
    width_of new.method ≡ width_of old.method →
    ((minute : ℕ) (holds : Bool) (slice : ℕ) → knowledge line minute ≡ Some holds →
    is_near (width_of old.method) (reach_of line.rule) slice minute ≡ true →
    leaf_at old slice ≡ leaf_at new slice) →
    Agrees line old → Agrees line new

-- a slice of a run, if there is one
abbrev pub IsInIf : Option SliceRun → ℕ → Type 0
IsInIf None slice = ⊥
IsInIf (Some run) slice = IsInRun run.first run.last slice

-- no minute of an office is later: its origin is a minute of the clock, and its range has so many
abbrev pub LAST_MINUTE : ℕ
LAST_MINUTE = MAX_MINUTE + RANGE_MINUTES

-- A run of slices of the office's minutes. Where it has several, the minutes near them have no gap.
pub record IsRun (width reach : ℕ) (run : SliceRun) : Type 0 where
  pub order : run.first ≤ run.last
  pub early : run.last * width ≤ LAST_MINUTE
  pub joined : run.first < run.last → 2 * width ≤ reach + 1

-- such a run, if there is one
abbrev pub IsRunIf : ℕ → ℕ → Option SliceRun → Type 0
IsRunIf width reach None = Unit {0}
IsRunIf width reach (Some run) = IsRun width reach run

-- a row of a batch has this minute
pub record IsMinuteOfRow (rows : List Row) (minute : ℕ) : Type 0 where
  pub place : ℕ
  pub row : Row
  pub here : slice_get rows place ≡ Some row
  pub is : row.minute ≡ minute

-- a row that moves, among the first of a batch, lies in a slice
pub record HasMovedBefore (m : Measure) (rows : List Row) (verdicts : List RowVerdict)
    (at slice : ℕ) :
    Type 0 where
  pub moved : HasMoved m rows verdicts slice
  pub before : moved.place < at

-- a row of the minutes [begin, end) counts otherwise with an exclusion than without it
pub record IsChangedRow (m : Measure) (made : List (Exclusion × Bool)) (value : Exclusion)
    (begin end : ℕ) (row : Row) : Type 0 where
  pub changed : row_counts m (made_on made value false) row ≢ row_counts m (made_on made value true)
      row
  pub from : begin ≤ row.minute
  pub to : row.minute < end

-- there is such a row
pub record HasChanged (m : Measure) (made : List (Exclusion × Bool)) (value : Exclusion)
    (rows : List Row) (begin end : ℕ) : Type 0 where
  pub place : ℕ
  pub row : Row
  pub here : slice_get rows place ≡ Some row
  pub is : IsChangedRow m made value begin end row

-- there is one, and the slice is that of the first of these minutes, in which they all lie
pub record IsCut (m : Measure) (made : List (Exclusion × Bool)) (value : Exclusion)
    (rows : List Row) (width begin end slice : ℕ) : Type 0 where
  pub some : HasChanged m made value rows begin end
  pub is : slice ≡ begin / width

-- a slice of [first, end) has counts
pub record IsCountedIn (sums : CountedDays) (first end slice : ℕ) : Type 0 where
  pub from : first ≤ slice
  pub to : slice < end
  pub some : counts_of sums slice ≢ no_counts

-- so has one of these on a day
pub record IsCountedOn (sums : CountedDays) (first end day slice : ℕ) : Type 0 where
  pub is : IsCountedIn sums first end slice
  pub on : slice / slices_a_day sums.method ≡ day

-- so has one of these on a day before another
pub record IsCountedBefore (sums : CountedDays) (first end day slice : ℕ) : Type 0 where
  pub is : IsCountedIn sums first end slice
  pub before : slice / slices_a_day sums.method < day

-- so has one of these on a day, before another slice
pub record IsCountedUntil (sums : CountedDays) (first end day until slice : ℕ) : Type 0 where
  pub is : IsCountedOn sums first end day slice
  pub before : slice < until

-- a slice is this one, which has counts
pub record IsThatOne (at : ℕ) (counts : Counts) (slice : ℕ) : Type 0 where
  pub is : slice ≡ at
  pub some : counts ≢ no_counts

-- Some slices more are touched: they are in the run that waits then. So is what was in the one
-- before it, or nothing is known near that any more.
pub record Touches (more : ℕ → Type 0) (width reach : ℕ) (run next : Option SliceRun)
    (line after : Line) : Type 0 where
  pub runs : IsRunIf width reach next
  pub has : (slice : ℕ) → more slice → IsInIf next slice
  pub own : (slice : ℕ) → IsInIf next slice → IsInIf run slice ⊎ more slice
  pub all : (slice : ℕ) → IsInIf run slice → IsInIf next slice ⊎ IsClear after width slice
  pub only : ForgetsOnly (IsInIf run) width line after

-- Some slices more are touched, one after the other: what is near them, or near the run that
-- waited, isn't known any more, but for the run that waits then.
pub record TouchesEach (more : ℕ → Type 0) (width reach : ℕ) (run next : Option SliceRun)
    (line after : Line) : Type 0 where
  pub runs : IsRunIf width reach next
  pub own : (slice : ℕ) → IsInIf next slice → IsInIf run slice ⊎ more slice
  pub all : (slice : ℕ) → IsInIf run slice ⊎ more slice →
      IsInIf next slice ⊎ IsClear after width slice
  pub only : ForgetsOnly (λ slice. IsInIf run slice ⊎ more slice) width line after

-- On the way: what is near the slices so far is forgotten, but for the run that waits, and nothing
-- that is near no touched slice.
pub record IsForgetting (touched so_far : ℕ → Type 0) (width : ℕ) (run : Option SliceRun)
    (before line : Line) : Type 0 where
  pub only : ForgetsOnly touched width before line
  pub runs : IsRunIf width (reach_of before.rule) run
  pub own : (slice : ℕ) → IsInIf run slice → touched slice
  pub clear : (slice : ℕ) → so_far slice → IsInIf run slice ⊎ IsClear line width slice
