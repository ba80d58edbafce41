-- Inside: what is kept around a moment.
use Rattle.std.specs.Prelude.{◌≡◌, ℕ, ◌<◌, List, Option, Some, None, option_map, slice_get}
use Rattle.std.specs.Prelude.{is_some, true, ◌⊎◌}
use Rattle.counter_book.specs.declared.reading.Count.{Count}
use Rattle.counter_book.specs.declared.reading.CounterReading.{CounterReading}
use Rattle.counter_book.specs.declared.reading.Kept.{Kept}
use Rattle.counter_book.specs.declared.reading.Moment.{Moment}
use Rattle.counter_book.specs.declared.reading.Neighbours.{Neighbours}
use Rattle.counter_book.specs.declared.reading.Tail.{Tail}
use Rattle.counter_book.specs.Book.{slot_at}
use Rattle.counter_book.specs.Differences.{before_of, count_of}
use Rattle.counter_book.specs.Moves.{IsNext}

-- what is kept has these counts
abbrev pub counts_at : (ℕ → Option Kept) → ℕ → Option Count
counts_at at minute = option_map (λ kept. kept.count) (at minute)

-- These are the neighbours of a minute of a source.
pub record AreNear (at : ℕ → Option Kept) (minute : ℕ) (near : Neighbours) : Type 0 where
  pub before : near.before ≡ before_of (counts_at at) minute
  pub here : near.here ≡ at minute
  pub next : IsNext at minute near.next

-- This is the last reading of a source.
pub record IsTail (at : ℕ → Option Kept) (tail : Tail) : Type 0 where
  pub there : counts_at at tail.minute ≡ Some tail.count
  pub last : (minute : ℕ) → tail.minute < minute → at minute ≡ None

-- Each of these is the last reading of the source of its place.
abbrev pub AreTails : List (Moment × Kept) → List Tail → Type 0
AreTails entries tails = (number : ℕ) (tail : Tail) → slice_get tails number ≡ Some tail
    → IsTail (slot_at entries number) tail

abbrev pub tail_of : CounterReading → Tail
tail_of r = record { minute = r.minute; count = count_of r }

-- A reading became the last one of its source, where nothing is behind it; all others stay.
abbrev pub IsNoted : List Tail → ℕ → CounterReading → Neighbours → List Tail → Type 0
IsNoted old own r near new = (number : ℕ) (tail : Tail) → slice_get new number ≡ Some tail
    → ((number ≡ own) × (near.next ≡ None) × (tail ≡ tail_of r))
    ⊎ ((slice_get old number ≡ Some tail) × (number ≡ own → is_some near.next ≡ true))
