-- The office of a desk may go to another thread, as the office does.
use denote.RattleType.{RattleType}
use denote.Param.Send.{IsSend, sendable}
use Rattle.std.proofs.Crossing.{crosses}
use Rattle.turn_counter.specs.contracts.desk_office.DeskOffice as held
use Rattle.office_outside.specs.declared.disk.Disk.{Ghosts}
use Rattle.office_keep.proofs.Sending.{office_send}

pub held_send : (D : RattleType) (disk : Ghosts D.Denot) → IsSend D → IsSend (held.the_row D disk)
held_send D disk sent = search (office_send, sendable, crosses) depth 40 fits 100000
