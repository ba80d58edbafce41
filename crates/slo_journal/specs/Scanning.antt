-- What stands in a file from a place on, and what a scan finds there.
use Rattle.std.specs.Prelude.{◌≡◌, ◌≢◌, ℕ, ◌+◌, ◌-◌, ◌≤◌, List, [], ◌∷◌, ◌++◌, length, take, drop}
use Rattle.std.specs.Prelude.{⊤, Bool, true, false, Some, Result, Ok, Err}
use Rattle.office_outside.specs.Disk.{OnlyAsRead}
use Rattle.office_outside.specs.Senses.{DiskSenses}
use Rattle.slo_limits.specs.declared.TheConstants.{MAX_JOURNAL_BYTES, MAX_MINUTE, MAX_RECORD_BYTES}
use Rattle.slo_journal.specs.File.{four, IsRecord, Closed}
use Rattle.slo_journal.specs.Front.{IsHeader}
use Rattle.slo_journal.specs.declared.scan.Head.{Head}
use Rattle.slo_journal.specs.declared.scan.Head.TheVariants.{Shut, Opens, Broken}
use Rattle.slo_journal.specs.declared.fault.ScanFault.{ScanFault}
use Rattle.slo_journal.specs.declared.fault.ScanFault.TheVariants.{DiskFault, Damaged, NoMemory}

-- a scan: its disk, the origin, and the place of the gate that comes next
pub record ScanOn (D : Type 0) : Type 0 where
  pub disk : D
  pub origin : ℕ
  pub at : ℕ

-- what a reader sees from a place on: it looks at no byte behind the most that a journal has
abbrev pub seen_from : ℕ → List ℕ → List ℕ
seen_from at file = take (MAX_JOURNAL_BYTES - at) (drop at file)

-- an open gate, and a length in range
pub record IsOpening (n : ℕ) (bytes : List ℕ) : Type 0 where
  pub gate : ℕ
  pub is_open : gate ≢ 0
  pub least : 1 ≤ n
  pub most : n ≤ MAX_RECORD_BYTES
  pub same : bytes ≡ gate ∷ four n

-- what the first five bytes from a gate on are
abbrev pub IsHead : List ℕ → Head → Type 0
IsHead bytes Shut = Closed bytes
IsHead bytes (Opens n) = IsOpening n bytes
IsHead bytes Broken = (Closed bytes → ⊥) × ((n : ℕ) → IsOpening n bytes → ⊥)

-- the bytes begin with an open gate and this record
pub record HasRecord (r bytes : List ℕ) : Type 0 where
  pub gate : ℕ
  pub rest : List ℕ
  pub is_open : gate ≢ 0
  pub is_record : IsRecord r
  pub same : bytes ≡ gate ∷ (four (length r) ++ (r ++ rest))

-- what the next step of a scan finds: a record, the closed gate, or neither
abbrev pub IsNext : List ℕ → ℕ → Result Bool ScanFault → List ℕ → Type 0
IsNext bytes at (Ok true) out = HasRecord out bytes
IsNext bytes at (Ok false) out = Closed bytes
IsNext bytes at (Err (Damaged place)) out = (place ≡ at) × (Closed bytes → ⊥)
    × ((r : List ℕ) → HasRecord r bytes → ⊥)
IsNext bytes at (Err DiskFault) out = ⊤
IsNext bytes at (Err NoMemory) out = ⊤

-- where the disk tells, a header stands at the front of its file, and each image now is this file
pub record HasBegun {D : Type 0} (S : DiskSenses D) (old : D) (scan : ScanOn D) : Type 0 where
  pub at : scan.at ≡ 13
  pub range : scan.origin ≤ MAX_MINUTE
  pub header : (file : List ℕ) → S.content old ≡ Some file → IsHeader scan.origin (take 13 file)
  pub same : S.content scan.disk ≡ S.content old
  pub only : OnlyAsRead (S.content old) (S.images scan.disk)

-- these bytes stand in the file from a place on
abbrev pub StandsAt : ℕ → List ℕ → List ℕ → Type 0
StandsAt start bytes file = bytes ≡ take (length bytes) (drop start file)
