-- Laws of records.
use Rattle.std.specs.Prelude.{◌≡◌, ◌++◌, ◌∷◌, [], ◌≤◌, ◌+◌, ◌*◌, ℕ, List, length, Some, slice_get}
use Rattle.std.specs.Prelude.{sum_by}
use Rattle.std.specs.List.{AllByRecursion}
use Rattle.slo_limits.specs.declared.TheConstants.{MAX_RECORD_BYTES}
use Rattle.record_form.specs.declared.command.Command.TheVariants.{Upgrade}
use Rattle.record_form.specs.declared.entry.Entry.{Entry}
use Rattle.record_form.specs.Records.{entry, record_of}
use Rattle.record_form.specs.Ranges.{FitsRecord, IsRecord}
use Rattle.record_form.specs.Histories.{records_of, history_of, AreRecords}

-- An entry is read back from its record, whatever follows.
abbrev pub EntriesAreReadBack : Type 0
EntriesAreReadBack = (e : Entry) (rest : List ℕ) → FitsRecord e
    → entry.read (record_of e ++ rest) ≡ Some (e, rest)

-- No record begins another, so records that begin alike are of one entry, and one has nothing more.
abbrev pub NoRecordBeginsAnother : Type 0
NoRecordBeginsAnother = (one other rest : List ℕ) (e f : Entry) → IsRecord one e → IsRecord other f
    → one ++ rest ≡ other → (e ≡ f) × (rest ≡ [])

-- A record has 5 bytes at least, the moment and the kind, and at most as many as the journal takes.
pub record HasSize (e : Entry) : Type 0 where
  pub least : 5 ≤ length (record_of e)
  pub most : length (record_of e) ≤ MAX_RECORD_BYTES

-- Each entry that has a record has one of such a size.
abbrev pub RecordsHaveSizes : Type 0
RecordsHaveSizes = (e : Entry) → FitsRecord e → HasSize e

-- A history is read back from its records.
abbrev pub HistoriesAreReadBack : Type 0
HistoriesAreReadBack = (history : List Entry) → AllByRecursion FitsRecord history
    → history_of (records_of history) ≡ history

-- One record more is one entry more.
pub record AddsOne (bytes : List ℕ) (e : Entry) : Type 0 where
  pub history : history_of (bytes ++ record_of e) ≡ history_of bytes ++ e ∷ []
  pub records : AreRecords (bytes ++ record_of e)

-- So it is behind the records of any history.
abbrev pub OneRecordMore : Type 0
OneRecordMore = (bytes : List ℕ) (e : Entry) → AreRecords bytes → FitsRecord e → AddsOne bytes e

-- The records of a history have the lengths of its entries' records, one behind another: with five
-- bytes more for each, its gate and its length, as many as they take in a journal.
abbrev pub RecordsAddUp : Type 0
RecordsAddUp = (history : List Entry) → length (records_of history) + 5 * length history
    ≡ sum_by (λ (e : Entry). 5 + length (record_of e)) history

-- No bytes are the records of no entries.
abbrev pub NoBytesAreNoHistory : Type 0
NoBytesAreNoHistory = AreRecords [] × (history_of [] ≡ [])

-- The kind of an upgrade, behind the four bytes of its moment, is none of the eight of before: so a
-- program that knows these alone stops at it.
abbrev pub UpgradesHaveTheirKind : Type 0
UpgradesHaveTheirKind = (e : Entry) → e.command ≡ Upgrade → slice_get (record_of e) 4 ≡ Some 9
