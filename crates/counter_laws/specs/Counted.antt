-- What the differences of a minute add up to.
use Rattle.std.specs.Prelude.{ℕ, List, Option, Some, None}
use Rattle.slo_terms.specs.Sums.{amount_at}
use Rattle.slice_method.specs.declared.Counts.{Counts}
use Rattle.counter_book.specs.Differences.{difference_at, newest}
use Rattle.counter_book.specs.declared.CounterReading.{CounterReading}
use Rattle.counter_book.specs.declared.Rise.{Rise}

abbrev pub part_of : Option Rise → ℕ
part_of None = 0
part_of (Some rise) = rise.part

abbrev pub total_of : Option Rise → ℕ
total_of None = 0
total_of (Some rise) = rise.total

-- The sums of the differences at a minute, over its newest readings: one for each source, but where
-- the reading is the first of its source.
abbrev pub sums_of_differences : List CounterReading → ℕ → Counts
sums_of_differences came minute = record {
  good = amount_at (λ (r : CounterReading). r.minute)
      (λ (r : CounterReading). part_of (difference_at came r.source r.minute)) (newest came)
      minute;
  total = amount_at (λ (r : CounterReading). r.minute)
      (λ (r : CounterReading). total_of (difference_at came r.source r.minute)) (newest came)
      minute;
}
