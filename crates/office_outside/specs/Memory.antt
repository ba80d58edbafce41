-- The memory forms: how their calls are planned, and what they hold.
use Rattle.std.specs.Prelude.{ℕ, List, ◌++◌, drop, min, max, Option, Some, None, slice_get}
use Rattle.office_outside.specs.Faults.{next_count}

-- how the calls of a memory form go
pub record CallPlan : Type 0 where
  -- the call of each of these numbers fails; calls are counted from 0
  pub failing : List ℕ
  -- the move of number k moves at most the k-th of these sizes; moves are counted from 0
  pub sizes : List ℕ
  -- how many calls there were
  pub calls : ℕ
  -- how many of them moved bytes: the reads and writes that succeeded
  pub moves : ℕ
  -- how many of them failed
  pub faults : ℕ

-- a plan before its first call
abbrev pub fresh_plan : List ℕ → List ℕ → CallPlan
fresh_plan failing sizes = record {
  failing = failing;
  sizes = sizes;
  calls = 0;
  moves = 0;
  faults = 0;
}

-- a size as a bound: 0 counts as 1, and after the last size there is none
abbrev pub cut_at : Option ℕ → ℕ → ℕ
cut_at None count = count
cut_at (Some size) count = min (max size 1) count

-- how many bytes the next move moves where `count` of them could be
abbrev pub move_size : CallPlan → ℕ → ℕ
move_size plan count = cut_at (slice_get plan.sizes plan.moves) count

-- the plan after a call that moved bytes
abbrev pub after_move : CallPlan → CallPlan
after_move plan = record plan { calls = next_count plan.calls; moves = next_count plan.moves }

-- the plan after a flush that succeeded
abbrev pub after_flush : CallPlan → CallPlan
after_flush plan = record plan { calls = next_count plan.calls }

-- the plan after a call that failed
abbrev pub after_failure : CallPlan → CallPlan
after_failure plan = record plan { calls = next_count plan.calls; faults = next_count plan.faults }

-- a memory source: the bytes that are left, and its plan
pub record SourceInMemory : Type 0 where
  pub left : List ℕ
  pub plan : CallPlan

-- a memory sink: the bytes that it holds, and its plan
pub record SinkInMemory : Type 0 where
  pub held : List ℕ
  pub plan : CallPlan

-- the source after a read of so many bytes
abbrev pub after_read : ℕ → SourceInMemory → SourceInMemory
after_read count source = record { left = drop count source.left; plan = after_move source.plan }

-- the sink after a write of these bytes
abbrev pub after_write : List ℕ → SinkInMemory → SinkInMemory
after_write bytes sink = record { held = sink.held ++ bytes; plan = after_move sink.plan }
