-- Files that stand for histories.
use Rattle.std.specs.Prelude.{◌≡◌, ℕ, List, map}
use Rattle.std.specs.List.{AllByRecursion}
use Rattle.record_form.specs.declared.Entry.{Entry}
use Rattle.record_form.specs.Records.{record_of}
use Rattle.record_form.specs.Ranges.{FitsRecord, IsRecord}
use Rattle.office_history.specs.History.{Office}
use Rattle.office_history.specs.Legal.{IsLegal, MayFollow}
use Rattle.slo_journal.specs.File.{Stands}
use Rattle.slo_journal.specs.Legal.{StopsAt, Walks}

-- the records of the entries
abbrev pub records : List Entry → List (List ℕ)
records history = map record_of history

-- The bytes are a journal with this office's origin and the records of its entries, one for each.
abbrev pub StandsFor : Office → List ℕ → Type 0
StandsFor o file = Stands o.origin (records o.history) file

-- Its entries follow one another legally, and each has a record, which is then no other entry's.
pub record OfficeIsWhole (o : Office) : Type 0 where
  pub legal : IsLegal o.origin o.history
  pub fit : AllByRecursion FitsRecord o.history

-- The record is that of an entry which may follow those whose records stand before it.
pub record IsLegalRecord (origin : ℕ) (before : List (List ℕ)) (r : List ℕ) : Type 0 where
  pub history : List Entry
  pub entry : Entry
  pub same : before ≡ records history
  pub fit : AllByRecursion FitsRecord history
  pub is_record : IsRecord r entry
  pub follows : MayFollow (record { origin = origin; history = history }) entry

-- before this place the file holds this office, and its history is legal
abbrev pub WalksOver : Office → ℕ → List ℕ → Type 0
WalksOver o at file = Walks (IsLegalRecord o.origin) o.origin (records o.history) at file

-- The file stands for no legal history: up to this place it is one's, and there stands neither a
-- closed gate nor the record of an entry that may follow.
pub record IsDamagedAt (at : ℕ) (file : List ℕ) : Type 0 where
  pub origin : ℕ
  pub stops : StopsAt (IsLegalRecord origin) origin at file
  pub none : (o : Office) → StandsFor o file → OfficeIsWhole o → ⊥
