-- A sink that waits for another one.
use Rattle.std.specs.Prelude.{ℕ}
use Rattle.office_outside.specs.Memory.{SinkInMemory}

-- a sink in memory behind a gate, with its own count of faults
pub record Gated : Type 0 where
  pub inner : SinkInMemory
  pub faults : ℕ
