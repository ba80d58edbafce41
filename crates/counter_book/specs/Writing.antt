-- Inside: how what a reading moves is written, and told.
use Rattle.std.specs.Prelude.{◌≡◌, ℕ, ◌+◌, ◌≤◌, Bool, false, ◌&&◌, ◌==◌, List, length, ⊤}
use Rattle.std.specs.Prelude.{Option, Some, None, IfSome}
use Rattle.slo_limits.specs.declared.TheConstants.{MAX_AMOUNT, MAX_PUTS}
use Rattle.counter_book.specs.declared.reading.Changes.{Changes}
use Rattle.counter_book.specs.declared.reading.CounterReading.{CounterReading}
use Rattle.counter_book.specs.declared.reading.Difference.{Difference}
use Rattle.counter_book.specs.declared.reading.Kept.{Kept}
use Rattle.counter_book.specs.declared.reading.Moment.{Moment}
use Rattle.counter_book.specs.declared.reading.Moves.{Moves}
use Rattle.counter_book.specs.declared.reading.NextMove.{NextMove}
use Rattle.counter_book.specs.declared.reading.Rise.{Rise}
use Rattle.counter_book.specs.declared.reading.Tail.{Tail}
use Rattle.counter_book.specs.Book.{Book, given_in, given_of, kept_at, slot_at}
use Rattle.counter_book.specs.Differences.{count_of, is_reading_at}
use Rattle.counter_book.specs.Moves.{is_next_at}
use Rattle.counter_book.specs.Neighbours.{AreTails}
use Rattle.counter_book.specs.Puts.{given_after}

abbrev pub given_slot : List (Moment × Kept) → ℕ → ℕ → ℕ
given_slot entries number minute = given_of (slot_at entries number minute)

-- No difference was given more often than readings were put, and each entry has a named number.
pub record IsCounted (names : List (List ℕ)) (entries : List (Moment × Kept)) (puts : ℕ) :
    Type 0 where
  pub few : puts ≤ MAX_PUTS
  pub given : (number minute : ℕ) → given_slot entries number minute ≤ puts
  pub named : (number minute : ℕ) → length names ≤ number → slot_at entries number minute ≡ None

-- So, and each tail is the last reading of its source.
pub record IsSound (names : List (List ℕ)) (entries : List (Moment × Kept)) (lasts : List Tail)
    (puts : ℕ) : Type 0 where
  pub counted : IsCounted names entries puts
  pub tails : AreTails entries lasts

-- what is kept of a reading
abbrev pub own_kept_of : CounterReading → ℕ → Option Rise → Kept
own_kept_of r given own =
    record { count = count_of r; revision = r.revision; given = given_after own given }

-- what is kept of the next reading, once its difference is given again
abbrev pub next_kept_of : NextMove → Kept
next_kept_of next = record {
  count = next.kept.count;
  revision = next.kept.revision;
  given = next.kept.given + 1;
}

abbrev pub IsNextPlaced : Book → CounterReading → Option NextMove → Type 0
IsNextPlaced book r None = ⊤
IsNextPlaced book r (Some next) =
    kept_at book r.source next.minute ≡ Some (next_kept_of next)

-- a book after the moves of a reading are written
pub record IsPlaced (before : Book) (r : CounterReading) (moves : Moves) (after : Book) :
    Type 0 where
  pub own : kept_at after r.source r.minute
      ≡ Some (own_kept_of r (given_in before r.source r.minute) moves.own)
  pub next : IsNextPlaced after r moves.next
  pub others : (source : List ℕ) (minute : ℕ) → is_reading_at source minute r ≡ false
      → is_next_at r moves.next source minute ≡ false
      → kept_at after source minute ≡ kept_at before source minute

abbrev pub IsNextWritten : List (Moment × Kept) → ℕ → Option NextMove → Type 0
IsNextWritten entries number None = ⊤
IsNextWritten entries number (Some next) =
    slot_at entries number next.minute ≡ Some (next_kept_of next)

abbrev pub is_next_slot : ℕ → Option NextMove → ℕ → ℕ → Bool
is_next_slot own None number minute = false
is_next_slot own (Some next) number minute = number == own && minute == next.minute

-- the entries after the moves of a reading are written at its source's number
pub record IsWritten (before : List (Moment × Kept)) (own_number : ℕ) (r : CounterReading)
    (moves : Moves) (after : List (Moment × Kept)) : Type 0 where
  pub own : slot_at after own_number r.minute
      ≡ Some (own_kept_of r (given_slot before own_number r.minute) moves.own)
  pub next : IsNextWritten after own_number moves.next
  pub others : (number minute : ℕ) → (number == own_number && minute == r.minute) ≡ false
      → is_next_slot own_number moves.next number minute ≡ false
      → slot_at after number minute ≡ slot_at before number minute

abbrev pub own_row : CounterReading → ℕ → Option Rise → Option Difference
own_row r given None = None
own_row r given (Some rise) = Some (record {
  source = r.source;
  minute = r.minute;
  revision = given + 1;
  part = rise.part;
  total = rise.total;
})

abbrev pub next_row : CounterReading → Option NextMove → Option Difference
next_row r None = None
next_row r (Some next) = Some (record {
  source = r.source;
  minute = next.minute;
  revision = next.kept.given + 1;
  part = next.rise.part;
  total = next.rise.total;
})

-- the differences of what a reading moves, whose own one was given so often
abbrev pub changes_of : CounterReading → ℕ → Moves → Changes
changes_of r given moves =
    record { own = own_row r given moves.own; next = next_row r moves.next }

-- a rise that a sample has
abbrev pub IsNarrow : Rise → Type 0
IsNarrow rise = (rise.part ≤ rise.total) × (rise.total ≤ MAX_AMOUNT)

pub record AreNarrow (moves : Moves) : Type 0 where
  pub own : IfSome moves.own IsNarrow
  pub next : IfSome moves.next (λ next. IsNarrow next.rise)
