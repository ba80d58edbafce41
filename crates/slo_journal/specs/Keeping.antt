-- How a journal keeps its records on a disk: what an append and a settling leave, by
-- how they ended.
use Rattle.std.specs.Prelude.{◌≡◌, ◌⊎◌, ℕ, ◌+◌, ◌<◌, ◌≤◌, List, [], ◌∷◌, ◌++◌, length, Option, Some}
use Rattle.std.specs.Prelude.{None, Bool, true, false, Result, Ok, Err}
use Rattle.office_outside.specs.Disk.{All}
use Rattle.office_outside.specs.Faults.{Rose}
use Rattle.office_outside.specs.Senses.{DiskSenses}
use Rattle.slo_journal.specs.File.{Stands, StandsInDoubt, tail_of}
use Rattle.slo_journal.specs.declared.fault.AppendFault.{AppendFault}
use Rattle.slo_journal.specs.declared.fault.AppendFault.TheVariants.{JournalFull, NotKept, InDoubt}
use Rattle.slo_journal.specs.declared.fault.DiskFault.{DiskFault}
use Rattle.slo_limits.specs.declared.TheConstants.{MAX_JOURNAL_BYTES}

-- a journal: its disk, where its closed gate stands, and, where a record is in doubt, where the
-- gate behind that record does
pub record JournalOn (D : Type 0) : Type 0 where
  pub disk : D
  pub tail : ℕ
  pub doubt : Option ℕ

-- each place is one at which a reader looks
abbrev pub AreWithin : ℕ → Option ℕ → Type 0
AreWithin tail None = tail < MAX_JOURNAL_BYTES
AreWithin tail (Some end) = (tail < MAX_JOURNAL_BYTES) × (end < MAX_JOURNAL_BYTES)

-- the file stands for the records, or for them and this one more
abbrev pub WithOrWithout : ℕ → List (List ℕ) → List ℕ → List ℕ → Type 0
WithOrWithout origin records r bytes = Stands origin records bytes
    ⊎ Stands origin (records ++ r ∷ []) bytes

-- nothing is in doubt, and each image of the disk stands for these records
pub record Keeps {D : Type 0} (S : DiskSenses D) (origin : ℕ) (records : List (List ℕ))
    (journal : JournalOn D) : Type 0 where
  pub tail : journal.tail ≡ tail_of records
  pub none : journal.doubt ≡ None
  pub each : All (Stands origin records) (S.images journal.disk)

-- this record is in doubt: each image stands for these records, or for them and this one more
pub record Doubts {D : Type 0} (S : DiskSenses D) (origin : ℕ) (records : List (List ℕ))
    (r : List ℕ) (journal : JournalOn D) : Type 0 where
  pub tail : journal.tail ≡ tail_of records
  pub doubt : journal.doubt ≡ Some (tail_of (records ++ r ∷ []))
  pub each : All (StandsInDoubt origin records r) (S.images journal.disk)

-- what stands after an append follows from how it ended
abbrev pub Appended : {D : Type 0} → DiskSenses D → ℕ → List (List ℕ) → List ℕ
    → Result Prim.Unit AppendFault → JournalOn D → Type 0
Appended S o rs r (Ok x) journal = Keeps S o (rs ++ r ∷ []) journal
Appended S o rs r (Err (JournalFull tail needed)) journal = Keeps S o rs journal
Appended S o rs r (Err NotKept) journal = Keeps S o rs journal
Appended S o rs r (Err InDoubt) journal = Doubts S o rs r journal

-- how many bytes a journal takes with one more record: its gate, length and bytes, and
-- the closed gate
abbrev pub needed_for : ℕ → List ℕ → ℕ
needed_for tail r = tail + 6 + length r

-- `JournalFull` comes exactly where the record doesn't fit, with these numbers
abbrev pub FullExactly : ℕ → List ℕ → Result Prim.Unit AppendFault → Type 0
FullExactly tail r (Err (JournalFull at needed)) = (at ≡ tail) × (needed ≡ needed_for tail r)
    × (MAX_JOURNAL_BYTES < needed)
FullExactly tail r (Err NotKept) = needed_for tail r ≤ MAX_JOURNAL_BYTES
FullExactly tail r (Err InDoubt) = needed_for tail r ≤ MAX_JOURNAL_BYTES
FullExactly tail r (Ok x) = needed_for tail r ≤ MAX_JOURNAL_BYTES

-- where the journal stands after an append
abbrev pub Moves : {D : Type 0} → List ℕ → Result Prim.Unit AppendFault → JournalOn D
    → JournalOn D → Type 0
Moves r (Ok x) old new = (new.tail ≡ old.tail + 5 + length r) × (new.doubt ≡ None)
Moves r (Err (JournalFull tail needed)) old new = new ≡ old
Moves r (Err NotKept) old new = (new.tail ≡ old.tail) × (new.doubt ≡ None)
Moves r (Err InDoubt) old new = (new.tail ≡ old.tail) × (new.doubt ≡ Some (old.tail + 5 + length r))

-- the disk is blamed only where its count rose
pub record HasDiskCause (before now : ℕ) (result : Result Prim.Unit AppendFault) : Type 0 where
  pub later : before ≤ now
  pub not_kept : result ≡ Err NotKept → Rose before now
  pub in_doubt : result ≡ Err InDoubt → Rose before now

-- what stands after a settling follows from how it ended
abbrev pub Settled : {D : Type 0} → DiskSenses D → ℕ → List (List ℕ) → List ℕ
    → Result Bool DiskFault → JournalOn D → Type 0
Settled S o rs r (Ok true) journal = Keeps S o (rs ++ r ∷ []) journal
Settled S o rs r (Ok false) journal = Keeps S o rs journal
Settled S o rs r (Err fault) journal = Doubts S o rs r journal

-- where the journal stands after a settling
abbrev pub Settles : {D : Type 0} → Result Bool DiskFault → JournalOn D → JournalOn D → Type 0
Settles (Ok true) old new = (Some new.tail ≡ old.doubt) × (new.doubt ≡ None)
Settles (Ok false) old new = (new.tail ≡ old.tail) × (new.doubt ≡ None)
Settles (Err fault) old new = (new.tail ≡ old.tail) × (new.doubt ≡ old.doubt)
