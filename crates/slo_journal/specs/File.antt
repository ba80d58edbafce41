-- What the bytes of a journal's file stand for.
use Rattle.std.specs.Prelude.{◌≡◌, ◌≢◌, ℕ, ◌+◌, ◌-◌, ◌≤◌, ◌<◌, List, [], ◌∷◌, ◌++◌, length, codes}
use Rattle.std.specs.Prelude.{take, drop, Bool, false, not, ◌==◌}
use Rattle.std.specs.Int.{to_be_bytes, w32}
use Rattle.slo_limits.specs.declared.TheConstants.{MAX_JOURNAL_BYTES, MAX_RECORD_BYTES, MAX_MINUTE}

-- a number in four bytes, the highest first
abbrev pub four : ℕ → List ℕ
four n = to_be_bytes w32 n

-- a record has at least one byte, and at most as many as the office's longest entry
pub record IsRecord (bytes : List ℕ) : Type 0 where
  pub least : 1 ≤ length bytes
  pub most : length bytes ≤ MAX_RECORD_BYTES

-- what stands behind a record's gate: its length, its bytes, and the closed gate that comes next
abbrev pub frame_of : List ℕ → List ℕ
frame_of bytes = four (length bytes) ++ (bytes ++ 0 ∷ [])

-- the record in the bytes of a frame
abbrev pub record_in : List ℕ → List ℕ
record_in bytes = take (length bytes - 5) (drop 4 bytes)

-- the bytes are the frame of a record
pub record IsFrame (bytes : List ℕ) : Type 0 where
  pub same : bytes ≡ frame_of (record_in bytes)
  pub is_record : IsRecord (record_in bytes)

-- these records, each behind an open gate, and then bytes that are P; a gate is open where
-- it isn't 0
abbrev pub Records : (List ℕ → Type 0) → List (List ℕ) → List ℕ → Type 0
Records P [] bytes = P bytes
Records P (r ∷ rs) bytes = (gate : ℕ) × (rest : List ℕ) × (gate ≢ 0) × IsRecord r
    × (bytes ≡ gate ∷ (four (length r) ++ (r ++ rest))) × Records P rs rest

-- the header with an open gate and the origin, the records, and then bytes that are P
pub record Parts (P : List ℕ → Type 0) (origin : ℕ) (records : List (List ℕ))
    (bytes : List ℕ) : Type 0 where
  pub gate : ℕ
  pub rest : List ℕ
  pub is_open : gate ≢ 0
  pub in_range : origin ≤ MAX_MINUTE
  pub header : bytes ≡ gate ∷ (codes "OSLOJRN1" ++ (four origin ++ rest))
  pub records_are : Records P records rest

-- the bytes begin with a closed gate
abbrev pub Closed : List ℕ → Type 0
Closed bytes = (rest : List ℕ) × (bytes ≡ 0 ∷ rest)

-- how many bytes these records take with their gates and lengths
abbrev pub size_of : List (List ℕ) → ℕ
size_of [] = 0
size_of (r ∷ rs) = 5 + length r + size_of rs

-- where the gate stands behind the header and these records
abbrev pub tail_of : List (List ℕ) → ℕ
tail_of records = 13 + size_of records

-- The bytes stand for the origin and the records: the header, the records, and a closed gate among
-- the first bytes. Any bytes may follow.
pub record Stands (origin : ℕ) (records : List (List ℕ)) (bytes : List ℕ) : Type 0 where
  pub small : tail_of records < MAX_JOURNAL_BYTES
  pub parts : Parts Closed origin records bytes

-- behind a gate of any byte there is this record, and a closed gate
abbrev pub EitherGate : List ℕ → List ℕ → Type 0
EitherGate r bytes = (gate : ℕ) × (rest : List ℕ) × (bytes ≡ gate ∷ (frame_of r ++ rest))

-- behind a closed gate
abbrev pub Staged : List ℕ → List ℕ → Type 0
Staged r bytes = (rest : List ℕ) × (bytes ≡ 0 ∷ (frame_of r ++ rest))

-- behind a gate that was opened
abbrev pub Opened : List ℕ → List ℕ → Type 0
Opened r bytes = (rest : List ℕ) × (bytes ≡ 1 ∷ (frame_of r ++ rest))

-- The bytes stand for the records, or for them and this one more, by its gate's byte.
pub record StandsInDoubt (origin : ℕ) (records : List (List ℕ)) (r bytes : List ℕ) : Type 0 where
  pub small : tail_of records + 5 + length r < MAX_JOURNAL_BYTES
  pub is_record : IsRecord r
  pub parts : Parts (EitherGate r) origin records bytes

-- whether the gate with which these bytes begin is open
abbrev pub has_open_gate : List ℕ → Bool
has_open_gate [] = false
has_open_gate (gate ∷ rest) = not (gate == 0)
