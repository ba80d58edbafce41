-- Which differences a reading moves.
use Rattle.std.specs.Prelude.{◌≡◌, ℕ, ◌<◌, ◌≤◌, Bool, true, false, ◌&&◌, ◌==◌, List, ⊤}
use Rattle.std.specs.Prelude.{Option, Some, None, if◌then◌else◌, IfSome}
use Rattle.std.specs.Str.{bytes_eq}
use Rattle.counter_book.specs.declared.reading.Count.{Count}
use Rattle.counter_book.specs.declared.reading.CounterReading.{CounterReading}
use Rattle.counter_book.specs.declared.reading.Kept.{Kept}
use Rattle.counter_book.specs.declared.reading.Moment.{Moment}
use Rattle.counter_book.specs.declared.reading.Moves.{Moves}
use Rattle.counter_book.specs.declared.reading.NextMove.{NextMove}
use Rattle.counter_book.specs.declared.reading.Rise.{Rise}
use Rattle.counter_book.specs.Book.{Book, counts_in, kept_at, slot_at}
use Rattle.counter_book.specs.Differences.{count_of, is_reading_at, rise_at, rise_between, rise_of}

-- the counts of a source in a book, with a reading put among them
abbrev pub counts_with : Book → CounterReading → List ℕ → ℕ → Option Count
counts_with book r source minute =
    if is_reading_at source minute r then Some (count_of r) else counts_in book source minute

abbrev pub same_rise : Option Rise → Option Rise → Bool
same_rise None None = true
same_rise None (Some b) = false
same_rise (Some a) None = false
same_rise (Some a) (Some b) = a.part == b.part && a.total == b.total

-- the new value, where it isn't the old one
abbrev pub moved_to : Option Rise → Option Rise → Option Rise
moved_to old now = if same_rise old now then None else now

-- The difference of a source's minute that a reading makes new or changes, with its new value.
unfoldable pub change_at : Book → CounterReading → List ℕ → ℕ → Option Rise
change_at book r source minute = moved_to (rise_at (counts_in book source) minute)
    (rise_at (counts_with book r source) minute)

-- ---- inside: the own difference and the next one

-- the next entry of a source behind a minute
abbrev pub IsNext : (ℕ → Option Kept) → ℕ → Option (ℕ × Kept) → Type 0
IsNext at minute None = (j : ℕ) → minute < j → at j ≡ None
IsNext at minute (Some next) = (minute < next.0) × (at next.0 ≡ Some next.1)
    × ((j : ℕ) → minute < j → j < next.0 → at j ≡ None)

abbrev pub next_move_to : ℕ → Kept → Option Rise → Option NextMove
next_move_to minute kept None = None
next_move_to minute kept (Some rise) =
    Some (record { minute = minute; kept = kept; rise = rise })

-- how the next difference moves, which came behind another count before
abbrev pub next_move_of : Option (ℕ × Kept) → Option Count → Count → Option NextMove
next_move_of None passed count = None
next_move_of (Some next) passed count = next_move_to next.0 next.1 (moved_to
    (rise_between passed (Some next.1.count)) (Some (rise_of count next.1.count)))

abbrev pub is_next_at : CounterReading → Option NextMove → List ℕ → ℕ → Bool
is_next_at r None source minute = false
is_next_at r (Some next) source minute = bytes_eq source r.source && minute == next.minute

-- the next difference of the source, where it moves
abbrev pub IsNextMove : Book → CounterReading → Option NextMove → Type 0
IsNextMove book r None = ⊤
IsNextMove book r (Some next) = (r.minute < next.minute)
    × (kept_at book r.source next.minute ≡ Some next.kept)
    × (change_at book r r.source next.minute ≡ Some next.rise)

-- Only these two differences move.
pub record IsMoves (book : Book) (r : CounterReading) (moves : Moves) : Type 0 where
  pub own : moves.own ≡ change_at book r r.source r.minute
  pub next : IsNextMove book r moves.next
  pub others : (source : List ℕ) (minute : ℕ) → is_reading_at source minute r ≡ false
      → is_next_at r moves.next source minute ≡ false → change_at book r source minute ≡ None

-- a next move of what entries have
abbrev pub IsNextThere : List (Moment × Kept) → ℕ → ℕ → Option NextMove → Type 0
IsNextThere entries number minute None = ⊤
IsNextThere entries number minute (Some next) =
    (minute < next.minute) × (slot_at entries number next.minute ≡ Some next.kept)

-- a rise whose part is a part of the total
abbrev pub IsCapped : Rise → Type 0
IsCapped rise = rise.part ≤ rise.total

pub record AreCapped (moves : Moves) : Type 0 where
  pub own : IfSome moves.own IsCapped
  pub next : IfSome moves.next (λ next. IsCapped next.rise)
