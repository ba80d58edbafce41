-- What the sums of an objective are, while rows and exclusions come.
use Rattle.std.specs.Prelude.{◌≡◌, Bool, true, not, ◌&&◌, List, map, if◌then◌else◌, IsTrue}
use Rattle.std.specs.List.{AllByRecursion}
use Rattle.slice_method.specs.declared.Counts.{Counts}
use Rattle.slice_method.specs.Readings.{HasForm, IsSmall, counts}
use Rattle.sample_book.specs.declared.Exclusion.{Exclusion}
use Rattle.sample_book.specs.declared.Row.{Row}
use Rattle.sample_book.specs.Counting.{is_of}
use Rattle.sample_book.specs.Exclusions.{is_excluded}
use Rattle.window_sums.specs.Shares.{IsSumOf, Share}
use Rattle.window_sums.specs.Slices.{CountedDays, day_of, has_day, no_counts}
use Rattle.office_history.specs.declared.Measure.{Measure}

-- what a row counts for in an objective: nothing where it is of another indicator, or its minute is
-- excluded
abbrev pub row_counts : Measure → List (Exclusion × Bool) → Row → Counts
row_counts m made row =
    if is_of m.sli row && not (is_excluded made m.slo row.minute) then counts m.reading m.op m.value
    row.amount else no_counts

-- what a row adds to its minute, by what it counts for
abbrev pub share_by : (Row → Counts) → Row → Share
share_by f row = record { minute = row.minute; counts = f row }

-- what each of these rows adds to its minute
abbrev pub shares_by : (Row → Counts) → List Row → List Share
shares_by f rows = map (share_by f) rows

-- a row of the objective's indicator has the form of its reading, and counts at most 10^9 events
abbrev pub RowFits : Measure → Row → Type 0
RowFits m row = is_of m.sli row ≡ true → HasForm m.reading row.amount × IsSmall row.amount

-- the day of a row of the indicator is there, so that the row may count or not without memory
abbrev pub HasItsDay : Measure → CountedDays → Row → Type 0
HasItsDay m sums row = is_of m.sli row ≡ true → IsTrue (has_day sums (day_of row.minute))

-- The sums of an objective over these exclusions and rows: each slice has the counts of its rows.
-- The days of excluded rows are there too, so that a lifting takes no memory.
pub record SumsAreKept (m : Measure) (made : List (Exclusion × Bool)) (rows : List Row)
    (sums : CountedDays) : Type 0 where
  pub method : sums.method ≡ m.method
  pub counted : IsSumOf sums (shares_by (row_counts m made) rows)
  pub days : AllByRecursion (HasItsDay m sums) rows
