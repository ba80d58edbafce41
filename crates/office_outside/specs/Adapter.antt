-- The adapters over readers and writers of std.
use Rattle.std.specs.Prelude.{ℕ}

-- an object of std with its count of faults
pub record WithFaults (T : Type 0) : Type 0 where
  pub inner : T
  pub faults : ℕ
