-- What a disk in memory shows.
use Rattle.std.specs.Prelude.{◌≡◌, ℕ, List, [], take}
use Rattle.office_outside.specs.Memory.{CallPlan}
use Rattle.office_outside.specs.DiskCalls.{state_after, IsImage}
use Rattle.office_outside.specs.declared.memory_disk.DiskCall.{DiskCall}
use Rattle.office_outside.specs.declared.memory_disk.MemoryDisk.{MemoryDisk}

-- what a read gives
abbrev pub bytes_read : MemoryDisk → List ℕ
bytes_read disk = disk.bytes.items

-- the calls on it, the oldest first
abbrev pub calls_made : MemoryDisk → List DiskCall
calls_made disk = disk.calls.items

-- how its calls go
abbrev pub plan_of : MemoryDisk → CallPlan
plan_of disk = disk.plan

-- nothing has been asked of it, and a stop leaves what a read gives
pub record IsFresh (plan : CallPlan) (disk : MemoryDisk) : Type 0 where
  pub plan_is : disk.plan ≡ plan
  pub none : disk.calls.items ≡ []
  pub kept : disk.first.items ≡ disk.bytes.items

-- a stop after so many of its calls may leave this
abbrev pub IsLeftAt : ℕ → MemoryDisk → List ℕ → Type 0
IsLeftAt count disk = IsImage (state_after disk.first.items (take count disk.calls.items))
