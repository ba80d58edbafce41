-- The calls on a disk in memory, and the images that they leave.
use Rattle.std.specs.Prelude.{◌≡◌, ◌⊎◌, ℕ, Bool, ◌≤◌, true, false, List, [], ◌∷◌, length, take}
use Rattle.std.specs.Prelude.{fold}
use Rattle.std.proofs.Common.{subst, sym, arith}
use Rattle.std.proofs.lemmas.List.{take_all}
use Rattle.office_outside.specs.Disk.{Torn, file_after_write}
use Rattle.office_outside.specs.declared.memory_disk.DiskCall.{DiskCall}
use Rattle.office_outside.specs.declared.memory_disk.DiskCall.TheVariants.{Looked, Wrote, Synced}

-- what a read gives, what the last sync kept, and the writes since then, the newest first
pub record State : Type 0 where
  pub reads : List ℕ
  pub synced : List ℕ
  -- the place of each write, and how many bytes it has
  pub writes : List (ℕ × ℕ)

-- a write that fails changes nothing that a read sees, and may have reached the disk in part
abbrev pub after : State → DiskCall → State
after s (Looked at size done) = s
after s (Wrote at v true) =
    record s {
      reads = file_after_write s.reads at v.items;
      writes = (at, length v.items) ∷ s.writes;
    }
after s (Wrote at v false) = record s { writes = (at, length v.items) ∷ s.writes }
after s (Synced true) = record s { synced = s.reads; writes = [] }
after s (Synced false) = s

-- before the first call, with all of these bytes kept
abbrev pub at_first : List ℕ → State
at_first bytes = record { reads = bytes; synced = bytes; writes = [] }

-- after these calls, the oldest first
abbrev pub state_after : List ℕ → List DiskCall → State
state_after bytes calls = fold after (at_first bytes) calls

-- from what was synced through the writes, each of them cut short anywhere
abbrev pub Reaches : List ℕ → List (ℕ × ℕ) → List ℕ → Type 0
Reaches synced [] c = c ≡ synced
Reaches synced (w ∷ earlier) c = (d : List ℕ) × Reaches synced earlier d × Torn w.0 w.1 d c

-- a stop may leave this
abbrev pub IsImage : State → List ℕ → Type 0
IsImage s c = (c ≡ s.reads) ⊎ Reaches s.synced s.writes c

-- an image of some moment since the call number t
pub record LeftSince (bytes : List ℕ) (calls : List DiskCall) (t : ℕ) (c : List ℕ) : Type 0 where
  pub at : ℕ
  pub not_before : t ≤ at
  pub happened : at ≤ length calls
  pub image : IsImage (state_after bytes (take at calls)) c

-- this moment is one of those since an earlier one
pub counts_now : (bytes : List ℕ) (calls : List DiskCall) (t : ℕ) (c : List ℕ) → t ≤ length calls
    → IsImage (state_after bytes calls) c → LeftSince bytes calls t c
counts_now bytes calls t c le image = record {
  at = length calls;
  not_before = le;
  happened = omega arith;
  image = subst (λ (l : List DiskCall). IsImage (state_after bytes l) c)
      (sym (take_all (length calls) calls (omega arith))) image;
}

-- since this moment there is no other
pub only_now : (bytes : List ℕ) (calls : List DiskCall) (c : List ℕ)
    → LeftSince bytes calls (length calls) c → IsImage (state_after bytes calls) c
only_now bytes calls c left =
    subst (λ (l : List DiskCall). IsImage (state_after bytes l) c)
    (take_all left.at calls left.not_before) left.image

-- what a read gives and what a stop leaves, after these calls
pub record Left (s : State) (reads left : List ℕ) : Type 0 where
  pub same : reads ≡ s.reads
  pub reached : Reaches s.synced s.writes left
