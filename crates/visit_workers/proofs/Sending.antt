-- A worker may go to another thread, as its counter and its door may, where its handle may be
-- shared.
use denote.RattleType.{RattleType}
use denote.Ref.{NamedLft}
use denote.Param.Send.{IsSend, IsSync, sendable}
use Rattle.std.proofs.Crossing.{crosses}
use Rattle.office_doors.specs.declared.door.Door as door
use Rattle.office_outside.specs.declared.clock.Clock as clock
use Rattle.office_outside.specs.declared.sink.Sink as sink
use Rattle.office_outside.specs.declared.source.Source as source
use Rattle.office_session.proofs.Sending.{kit_send}
use Rattle.visit_workers.specs.contracts.workers.Worker as worker

pub worker_send : (κ : NamedLft) (T A R I O C : RattleType)
    (a : door.Ghosts A.Denot I.Denot O.Denot C.Denot) (i : source.Ghosts I.Denot)
    (o : sink.Ghosts O.Denot) (c : clock.Ghosts C.Denot)
    → IsSend T → IsSend A → IsSync R → IsSend (worker.the_row κ T A R I O C a i o c)
worker_send κ T A R I O C a i o c sent goes shared =
    search (kit_send, sendable, crosses) depth 40 fits 100000
