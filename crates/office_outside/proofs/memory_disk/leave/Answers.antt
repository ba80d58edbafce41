use Rattle.office_outside.proofs.Images.{left_after}
use Rattle.office_outside.proofs.memory_disk.leave.Goals as goal

pub returns-in_ok-leave_write-in-Wrote : goal.returns-in_ok-leave_write-in-Wrote
returns-in_ok-leave_write-in-Wrote c s l =
    left_after s _ _ _ _ _ _ _ _ _ c.in-Wrote.is c.deref.ensures.value l
    c.in_ok-leave_write-in-Wrote.ensures.reads c.in_ok-leave_write-in-Wrote.ensures.left
