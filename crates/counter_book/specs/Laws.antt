-- What was given over all readings that a book took.
use Rattle.std.specs.Prelude.{◌≡◌, ℕ, ◌==◌, ◌&&◌, Bool, List, [], ◌∷◌, ◌++◌, Option, Some, None}
use Rattle.std.specs.Str.{bytes_eq}
use Rattle.slo_terms.specs.Rows.{current}
use Rattle.counter_book.specs.declared.reading.Changes.{Changes}
use Rattle.counter_book.specs.declared.reading.CounterReading.{CounterReading}
use Rattle.counter_book.specs.declared.reading.Difference.{Difference}
use Rattle.counter_book.specs.declared.reading.Rise.{Rise}
use Rattle.counter_book.specs.Book.{Book, no_readings}
use Rattle.counter_book.specs.Puts.{Puts, listed}

-- After these readings these differences were given, and the book holds this.
pub data HoldsReadings : List CounterReading → List Difference → Book → Type 0 where
  empty : HoldsReadings [] [] no_readings
  put : {came : List CounterReading} {given : List Difference} {book after : Book}
      → (r : CounterReading) (changes : Changes)
      → HoldsReadings came given book → Puts book r changes after
      → HoldsReadings (came ++ r ∷ []) (given ++ listed changes) after

-- differences of one source and minute
abbrev pub same_place : Difference → Difference → Bool
same_place a b = bytes_eq a.source b.source && a.minute == b.minute

-- the current rows of the differences that were given
abbrev pub current_differences : List Difference → List Difference
current_differences = current same_place (λ d. d.revision)

-- the row of a difference at this revision, where there is one
abbrev pub row_at : List ℕ → ℕ → ℕ → Option Rise → Option Difference
row_at source minute revision None = None
row_at source minute revision (Some rise) = Some (record {
  source = source;
  minute = minute;
  revision = revision;
  part = rise.part;
  total = rise.total;
})

-- The differences of these readings alone are a front of those.
pub record IsFront (came : List CounterReading) (given : List Difference) : Type 0 where
  pub front : List Difference
  pub rest : List Difference
  pub book : Book
  pub holds : HoldsReadings came front book
  pub parted : given ≡ front ++ rest
