-- The differences between a counter's readings, from scratch over all readings that came.
use Rattle.std.specs.Prelude.{ℕ, zero, suc, Bool, ◌&&◌, ◌||◌, ◌==◌, nat_lt, ◌-◌, List, min}
use Rattle.std.specs.Prelude.{Option, Some, None, if◌then◌else◌, option_map}
use Rattle.std.specs.List.{find}
use Rattle.std.specs.Str.{bytes_eq}
use Rattle.slo_terms.specs.Rows.{current}
use Rattle.counter_book.specs.declared.reading.Count.{Count}
use Rattle.counter_book.specs.declared.reading.CounterReading.{CounterReading}
use Rattle.counter_book.specs.declared.reading.Rise.{Rise}

-- what a reading says that the counters stood at
abbrev pub count_of : CounterReading → Count
count_of r = record { good = r.good; total = r.total }

-- whether a counter was reset: one of the two fell
abbrev pub has_fallen : Count → Count → Bool
has_fallen before now = nat_lt now.good before.good || nat_lt now.total before.total

-- good events count at most the total
abbrev pub capped : ℕ → ℕ → Rise
capped good total = record { part = min good total; total = total }

-- The rise from one count to the next: the numbers themselves where one of them fell, since the
-- counter was reset then.
unfoldable pub rise_of : Count → Count → Rise
rise_of before now = if has_fallen before now then capped now.good now.total
    else capped (now.good - before.good) (now.total - before.total)

-- the first that is there
abbrev pub first_there : {A : Type 0} → Option A → Option A → Option A
first_there None other = other
first_there (Some x) other = Some x

-- what stands at the greatest minute before this one that has anything
abbrev pub before_of : {A : Type 0} → (ℕ → Option A) → ℕ → Option A
before_of at zero = None
before_of at (suc minute) = first_there (at minute) (before_of at minute)

-- the rise between two counts: none where one of them isn't there
abbrev pub rise_between : Option Count → Option Count → Option Rise
rise_between None now = None
rise_between (Some before) None = None
rise_between (Some before) (Some now) = Some (rise_of before now)

-- the rise at a minute of a source with these counts, from the one before it
abbrev pub rise_at : (ℕ → Option Count) → ℕ → Option Rise
rise_at at minute = rise_between (before_of at minute) (at minute)

-- readings of one source and minute
abbrev pub same_moment : CounterReading → CounterReading → Bool
same_moment a b = bytes_eq a.source b.source && a.minute == b.minute

-- the newest reading of each source and minute, as current rows are chosen
abbrev pub newest : List CounterReading → List CounterReading
newest = current same_moment (λ r. r.revision)

-- whether a reading is of this source and minute
abbrev pub is_reading_at : List ℕ → ℕ → CounterReading → Bool
is_reading_at source minute r = bytes_eq source r.source && minute == r.minute

-- the newest reading of a source's minute
abbrev pub reading_at : List CounterReading → List ℕ → ℕ → Option CounterReading
reading_at came source minute = find (is_reading_at source minute) (newest came)

-- the newest counts of a source, by its minutes
abbrev pub counts_of : List CounterReading → List ℕ → ℕ → Option Count
counts_of came source minute = option_map count_of (reading_at came source minute)

-- The difference at a source's minute: none where it has no reading there, or none before it.
abbrev pub difference_at : List CounterReading → List ℕ → ℕ → Option Rise
difference_at came source minute = rise_at (counts_of came source) minute
