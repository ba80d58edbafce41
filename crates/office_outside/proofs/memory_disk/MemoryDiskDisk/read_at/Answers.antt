use Rattle.office_outside.proofs.Images.{elapses, elapses_more, one_call}
use Rattle.office_outside.proofs.memory_disk.MemoryDiskDisk.read_at.Goals as goal

pub returns-then-is_ok-clause-time : goal.returns-then-is_ok-clause-time
returns-then-is_ok-clause-time c =
    elapses _ _ _ (elapses_more _ _ _ (one_call _ _ _ c.note-noted.ensures.either))

pub returns-clause-time : goal.returns-clause-time
returns-clause-time c =
    elapses _ _ _ (elapses_more _ _ _ (one_call _ _ _ c.note-noted.ensures.either))
