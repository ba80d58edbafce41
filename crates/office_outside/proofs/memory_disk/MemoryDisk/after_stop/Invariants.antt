use Rattle.std.proofs.Common.{take}
use Rattle.office_outside.specs.DiskCalls.{Left, state_after}
use Rattle.office_outside.proofs.memory_disk.MemoryDisk.after_stop.Given as goal

abbrev pub invariant-loop-call : goal.invariant-loop-call
invariant-loop-call l =
    Left (state_after l.self.first.items (take l.call-index l.made)) l.reads.items l.left.items
