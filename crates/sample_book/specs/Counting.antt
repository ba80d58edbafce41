-- What the current rows of an indicator count for, minute by minute.
use Rattle.std.specs.Prelude.{◌≡◌, ◌/◌, ◌==◌, ℕ, Bool, true, List, filter, map, Option}
use Rattle.std.specs.Prelude.{if◌then◌else◌}
use Rattle.std.specs.List.{find, All}
use Rattle.std.specs.Str.{bytes_eq}
use Rattle.slo_limits.specs.declared.TheConstants.{MINUTES_A_DAY}
use Rattle.exact_fraction.specs.declared.Op.{Op}
use Rattle.slice_method.specs.declared.Counts.{Counts}
use Rattle.slice_method.specs.declared.Reading.{Reading}
use Rattle.slice_method.specs.Readings.{HasForm, IsSmall, counts}
use Rattle.slo_terms.specs.Rows.{first_of_each}
use Rattle.slo_terms.specs.Sums.{amount_at}
use Rattle.sample_book.specs.declared.exclusions.Exclusion.{Exclusion}
use Rattle.sample_book.specs.declared.row.Row.{Row}
use Rattle.sample_book.specs.Exclusions.{is_excluded}

-- whether a row is of this indicator
abbrev pub is_of : List ℕ → Row → Bool
is_of sli row = bytes_eq row.sli sli

-- the first current row of an indicator
abbrev pub first_of : List Row → List ℕ → Option Row
first_of rows sli = find (is_of sli) rows

-- the days that have a current row of an indicator, each once: day d is the minutes from
-- d * 1,440 on
abbrev pub days_with_rows : List Row → List ℕ → List ℕ
days_with_rows rows sli =
    first_of_each (λ a b. a == b)
    (map (λ (row : Row). row.minute / MINUTES_A_DAY) (filter (is_of sli) rows))

-- the sums of good and total over the current rows of an indicator at a minute
abbrev pub counts_of_minute : Reading → Op → ℕ → List Row → List ℕ → ℕ → Counts
counts_of_minute reading op value rows sli minute =
    let own = filter (is_of sli) rows in
    record {
      good = amount_at (λ row. row.minute)
          (λ row. (counts reading op value row.amount).good) own minute;
      total = amount_at (λ row. row.minute)
          (λ row. (counts reading op value row.amount).total) own minute;
    }

-- What a minute counts for in an objective: nothing where it is excluded for it, else the sums over
-- its indicator's rows.
abbrev pub counted_in_minute : Reading → Op → ℕ → List (Exclusion × Bool) → List Row → List ℕ
    → List ℕ → ℕ → Counts
counted_in_minute reading op value made rows slo sli minute =
    if is_excluded made slo minute then record {
      good = 0;
      total = 0;
    } else counts_of_minute reading op value rows sli minute

-- the current rows of an indicator at a minute have amounts of the reading's form
abbrev pub HaveForm : Reading → List Row → List ℕ → ℕ → Type 0
HaveForm reading rows sli minute = All
    (λ (row : Row). is_of sli row ≡ true → row.minute ≡ minute → HasForm reading row.amount) rows

-- the row counts at most `MAX_AMOUNT` events, the limit of a row
abbrev pub IsSmallRow : Row → Type 0
IsSmallRow row = IsSmall row.amount
