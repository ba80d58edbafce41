-- A counter that takes turns may go to another thread, as its disk may, where its handle may be
-- shared.
use denote.RattleType.{RattleType}
use denote.Ref.{NamedLft}
use denote.Param.Send.{IsSend, IsSync, sendable}
use Rattle.std.proofs.Crossing.{crosses}
use Rattle.office_outside.specs.declared.disk.Disk as disk
use Rattle.turn_counter.proofs.Sending.{held_send}
use Rattle.turn_counter.specs.contracts.counter.TurnCounter as counter
use Rattle.turn_desk.proofs.desk.Desk.TheSendSync as desk
use Rattle.turn_desk.proofs.pass.Pass.TheSendSync as pass

pub counter_send : (κ : NamedLft) (D R : RattleType) (d : disk.Ghosts D.Denot) → IsSend D → IsSync R
    → IsSend (counter.the_row κ D R d)
counter_send κ D R d sent shared =
    search (held_send, desk.the_sync, pass.the_send, sendable, crosses) depth 40 fits 100000
