-- The front of a file, and what stands there while a journal is made.
use Rattle.std.specs.Prelude.{◌≡◌, ◌≢◌, ◌⊎◌, ⊤, ℕ, ◌≤◌, List, [], ◌∷◌, ◌++◌, take, drop, codes}
use Rattle.std.specs.Prelude.{Some}
use Rattle.office_outside.specs.Disk.{Always, IsQuiet}
use Rattle.office_outside.specs.Senses.{DiskSenses}
use Rattle.slo_limits.specs.declared.TheConstants.{MAX_MINUTE}
use Rattle.slo_journal.specs.File.{four, Closed, Stands}
use Rattle.slo_journal.specs.declared.header.Front.{Front}
use Rattle.slo_journal.specs.declared.header.Front.TheVariants.{Header, Shut, Bare}

-- these are the bytes of a header with an open gate
pub record IsHeader (origin : ℕ) (bytes : List ℕ) : Type 0 where
  pub gate : ℕ
  pub is_open : gate ≢ 0
  pub in_range : origin ≤ MAX_MINUTE
  pub same : bytes ≡ gate ∷ (codes "OSLOJRN1" ++ four origin)

-- no header stands at the front of the file
abbrev pub HasNoHeader : List ℕ → Type 0
HasNoHeader file = (origin : ℕ) → IsHeader origin (take 13 file) → ⊥

-- whatever the first byte were, there would be no header
abbrev pub Headless : List ℕ → Type 0
Headless file = (gate origin : ℕ) → IsHeader origin (take 13 (gate ∷ drop 1 file)) → ⊥

-- what stands at the front of a file
abbrev pub IsFront : Front → List ℕ → Type 0
IsFront (Header origin) file = IsHeader origin (take 13 file)
IsFront Shut file = Closed file
IsFront Bare file = Headless file

-- what stands at the front of a file that has no header
abbrev pub IsFree : Front → List ℕ → Type 0
IsFree (Header origin) file = ⊥
IsFree Shut file = Closed file
IsFree Bare file = Headless file

-- behind a closed gate, a gate of any byte, an open gate: these bytes
abbrev pub Laid : List ℕ → List ℕ → Type 0
Laid h c = (rest : List ℕ) × (c ≡ 0 ∷ (h ++ rest))

abbrev pub AnyGate : List ℕ → List ℕ → Type 0
AnyGate h c = (gate : ℕ) × (rest : List ℕ) × (c ≡ gate ∷ (h ++ rest))

abbrev pub Raised : List ℕ → List ℕ → Type 0
Raised h c = (rest : List ℕ) × (c ≡ 1 ∷ (h ++ rest))

-- the header's bytes behind its gate, and the first record's closed gate
abbrev pub header_of : ℕ → List ℕ
header_of origin = codes "OSLOJRN1" ++ (four origin ++ 0 ∷ [])

-- there is no header, or the file stands for the origin and no records
abbrev pub NoneOrWhole : ℕ → List ℕ → Type 0
NoneOrWhole origin file = HasNoHeader file ⊎ Stands origin [] file

-- The file had no header, where the disk tells it: no journal is touched. Up to some moment of the
-- call no image came up; from it on each image has no header, or stands for the origin and no
-- records.
pub record IsMaking {D : Type 0} (S : DiskSenses D) (origin : ℕ) (old new : D) : Type 0 where
  pub none_before : (file : List ℕ) → S.content old ≡ Some file → HasNoHeader file
  pub between : D
  pub before : IsQuiet S old between
  pub after : Always S between new (NoneOrWhole origin)
