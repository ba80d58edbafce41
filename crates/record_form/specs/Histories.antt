-- Histories as bytes: the records of their entries, one behind another.
use Rattle.std.specs.Prelude.{◌≡◌, ℕ, zero, suc, List, [], ◌∷◌, length, Option, Some, None}
use Rattle.std.specs.List.{AllByRecursion}
use Rattle.record_form.specs.declared.entry.Entry.{Entry}
use Rattle.record_form.specs.Form.{spelling_of_each}
use Rattle.record_form.specs.Records.{entry}
use Rattle.record_form.specs.Ranges.{FitsRecord}

-- the records of entries, one behind another
abbrev pub records_of : List Entry → List ℕ
records_of entries = spelling_of_each entry entries []

-- the entry that was found at the front, and those behind it, as `more` reads them
abbrev pub entries_from : (List ℕ → List Entry) → Option (Entry × List ℕ) → List Entry
entries_from more None = []
entries_from more (Some found) = found.0 ∷ more found.1

-- at most so many entries from the front, until none is left
abbrev pub first_entries : ℕ → List ℕ → List Entry
first_entries zero bytes = []
first_entries (suc n) bytes = entries_from (first_entries n) (entry.read bytes)

-- The entries that are read from the front, until none is left. An entry takes a byte at least.
unfoldable pub history_of : List ℕ → List Entry
history_of bytes = first_entries (length bytes) bytes

-- The bytes are the records of the history that they stand for, and each of its entries
-- has a record.
pub record AreRecords (bytes : List ℕ) : Type 0 where
  pub spelled : bytes ≡ records_of (history_of bytes)
  pub fit : AllByRecursion FitsRecord (history_of bytes)
