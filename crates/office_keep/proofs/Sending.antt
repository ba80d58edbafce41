-- An office may go to another thread, as its machine and its disk may.
use denote.RattleType.{RattleType}
use denote.Param.Send.{IsSend, sendable}
use Rattle.std.proofs.Crossing.{crosses}
use Rattle.office_core.proofs.Sending.{core_send}
use Rattle.office_keep.specs.contracts.office.Office as office
use Rattle.office_outside.specs.declared.disk.Disk.{Ghosts}

pub office_send : (D : RattleType) (disk : Ghosts D.Denot) → IsSend D →
    IsSend (office.the_row D disk)
office_send D disk sent = search (core_send, sendable, crosses) depth 40 fits 100000
