-- One row's share put in the place of another of its minute.
use Rattle.std.specs.Prelude.{◌≡◌, ℕ, ◌+◌, ◌≤◌, Bool, ◌&&◌, List, [], ◌∷◌, ◌++◌, length, take}
use Rattle.std.specs.Prelude.{Some, slice_get, true}
use Rattle.std.specs.List.{AllByRecursion}
use Rattle.slo_limits.specs.declared.TheConstants.{MAX_SUMMED_ROWS}
use Rattle.slice_method.specs.declared.Counts.{Counts}
use Rattle.sample_book.specs.declared.Exclusion.{Exclusion}
use Rattle.sample_book.specs.declared.Row.{Row}
use Rattle.sample_book.specs.declared.RowVerdict.{RowVerdict}
use Rattle.sample_book.specs.declared.RowVerdict.TheVariants.{Newer}
use Rattle.sample_book.specs.Counting.{is_of}
use Rattle.sample_book.specs.History.{is_put}
use Rattle.sample_book.specs.Rows.{current_rows, verdict_of}
use Rattle.window_sums.specs.Shares.{AreSmall, IsSumOf, Share}
use Rattle.window_sums.specs.Slices.{CountedDays, has_day, no_counts, slice_of}
use Rattle.office_history.specs.declared.Measure.{Measure}
use Rattle.kept_sums.specs.Sums.{RowFits, HasItsDay, SumsAreKept, row_counts}

-- one share between others
abbrev pub among : List Share → ℕ → Counts → List Share → List Share
among before minute counts after = before ++ record { minute = minute; counts = counts } ∷ after

-- The sums may exchange a share for another of its minute.
pub record MayReplace (sums : CountedDays) (minute : ℕ) (old new : Counts)
    (before after : List Share) : Type 0 where
  pub counted : IsSumOf sums (among before minute old after)
  pub small : AreSmall (among before minute old after)
  pub small_then : AreSmall (among before minute new after)

-- what the row counts for whose place a newer one takes
abbrev pub replaced_counts : Measure → List (Exclusion × Bool) → RowVerdict → Counts
replaced_counts m made (Newer kept) = row_counts m made kept
replaced_counts m made _ = no_counts

-- the row whose place is taken has the form of the reading
abbrev pub FitsReplaced : Measure → RowVerdict → Type 0
FitsReplaced m (Newer kept) = RowFits m kept
FitsReplaced m _ = Unit {0}

-- a row of the indicator is put
abbrev pub changes_counts : Measure → Row → RowVerdict → Bool
changes_counts m row verdict = is_of m.sli row && is_put verdict

-- the sums may follow a row that comes over those that came
pub record MayFollow (m : Measure) (made : List (Exclusion × Bool)) (row : Row)
    (verdict : RowVerdict) (sums : CountedDays) (came : List Row) : Type 0 where
  pub kept : SumsAreKept m made (current_rows came) sums
  pub comes : verdict ≡ verdict_of (current_rows came) row
  pub forms : AllByRecursion (RowFits m) (current_rows came)
  pub fits : RowFits m row
  pub day : HasItsDay m sums row
  pub few : length (current_rows (came ++ row ∷ [])) ≤ MAX_SUMMED_ROWS

-- the sums have followed so many rows of a batch
pub record HasFollowed (m : Measure) (made : List (Exclusion × Bool)) (before rows : List Row)
    (at : ℕ) (old sums : CountedDays) : Type 0 where
  pub kept : SumsAreKept m made (current_rows (before ++ take at rows)) sums
  pub forms : AllByRecursion (RowFits m) (current_rows (before ++ take at rows))
  pub days : (day : ℕ) → has_day sums day ≡ has_day old day

-- a row of a batch that moves lies in a slice
pub record HasMoved (m : Measure) (rows : List Row) (verdicts : List RowVerdict) (slice : ℕ) : Type
    0 where
  pub place : ℕ
  pub row : Row
  pub verdict : RowVerdict
  pub here : slice_get rows place ≡ Some row
  pub judged : slice_get verdicts place ≡ Some verdict
  pub moved : changes_counts m row verdict ≡ true
  pub lies : slice_of m.method row.minute ≡ slice
