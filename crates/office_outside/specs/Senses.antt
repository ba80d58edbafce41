-- What a proof sees of a disk: a record over the disk's type.
use Rattle.std.specs.Prelude.{ℕ, List, Option}

pub record DiskSenses (D : Type 0) : Type 1 where
  -- the bytes that a read gives, where the disk tells them
  pub content : D → Option (List ℕ)
  -- what a stop at this moment may leave
  pub images : D → List ℕ → Type 0
  -- the moment, as a number that doesn't fall
  pub moment : D → ℕ
  -- what a stop at some moment from that one on may have left
  pub images_since : D → ℕ → List ℕ → Type 0
  -- how often it failed
  pub faults : D → ℕ
