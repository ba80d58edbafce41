-- What a book holds.
use Rattle.std.specs.Prelude.{ℕ, List, [], Option, Some, None, option_map}
use Rattle.std.specs.declared.cmp.Ordering.{Ordering}
use Rattle.std.specs.Ordering.{nat_cmp, ordering_then}
use Rattle.std.specs.BTreeMap.{is_at}
use Rattle.std.specs.Map.{lookup}
use Rattle.std.specs.List.{position}
use Rattle.std.specs.Str.{bytes_eq}
use Rattle.counter_book.specs.declared.reading.Count.{Count}
use Rattle.counter_book.specs.declared.reading.Kept.{Kept}
use Rattle.counter_book.specs.declared.reading.Moment.{Moment}

-- by source, and then by minute
abbrev pub moment_cmp : Moment → Moment → Ordering
moment_cmp a b = ordering_then (nat_cmp a.source b.source) (nat_cmp a.minute b.minute)

-- The names of sources by their numbers, the entries in the order of number and minute, and how
-- many readings were new or newer.
pub record Book : Type 0 where
  pub names : List (List ℕ)
  pub entries : List (Moment × Kept)
  pub puts : ℕ

abbrev pub no_readings : Book
no_readings = record { names = []; entries = []; puts = 0 }

-- what entries have at a number's minute
abbrev pub slot_at : List (Moment × Kept) → ℕ → ℕ → Option Kept
slot_at entries number minute =
    lookup (is_at (moment_cmp (record { source = number; minute = minute }))) entries

-- the same where a number is there
abbrev pub numbered : Option ℕ → List (Moment × Kept) → ℕ → Option Kept
numbered None entries minute = None
numbered (Some number) entries minute = slot_at entries number minute

-- What a book has at a source's minute.
unfoldable pub kept_at : Book → List ℕ → ℕ → Option Kept
kept_at book source minute = numbered (position (bytes_eq source) book.names) book.entries minute

-- the counts of a source in a book, by its minutes
abbrev pub counts_in : Book → List ℕ → ℕ → Option Count
counts_in book source minute = option_map (λ kept. kept.count) (kept_at book source minute)

-- the reading that is kept: its revision and its counts
abbrev pub reading_in : Book → List ℕ → ℕ → Option (ℕ × Count)
reading_in book source minute =
    option_map (λ kept. (kept.revision, kept.count)) (kept_at book source minute)

abbrev pub given_of : Option Kept → ℕ
given_of None = 0
given_of (Some kept) = kept.given

-- the revision of the difference that was given last at a source's minute, 0 for none
abbrev pub given_in : Book → List ℕ → ℕ → ℕ
given_in book source minute = given_of (kept_at book source minute)
