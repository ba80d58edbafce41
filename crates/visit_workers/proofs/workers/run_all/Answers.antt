use denote.Param.Send.{sendable}
use Rattle.std.proofs.Crossing.{crosses}
use Rattle.visit_workers.proofs.Sending.{worker_send}
use Rattle.visit_workers.proofs.workers.run_all.Goals as goal

pub for_each_mut-requires-send-T : goal.for_each_mut-requires-send-T
for_each_mut-requires-send-T g c κs within =
    search (worker_send, sendable, crosses) depth 40 fits 100000
