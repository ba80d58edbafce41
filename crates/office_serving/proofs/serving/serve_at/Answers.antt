use denote.Param.Send.{sendable}
use Rattle.std.proofs.Crossing.{crosses}
use Rattle.turn_counter.specs.Turns.{TurnAsks}
use Rattle.visit_workers.specs.Visits.{visit_senses}
use Rattle.visit_workers.specs.Workers.{worker_senses}
use Rattle.office_serving.proofs.Endings.{as_lists}
use Rattle.office_serving.proofs.Sending.{counter_send}
use Rattle.office_serving.proofs.serving.serve_at.Goals as goal

pub serve_doors-end-requires-send-T : goal.serve_doors-end-requires-send-T
serve_doors-end-requires-send-T g c κs within =
    search (counter_send, sendable, crosses) depth 40 fits 100000

pub returns-clause-ends : goal.returns-clause-ends
returns-clause-ends g c =
    let A = g.S.One in
    let s = worker_senses (TurnAsks g.D.Disk.senses)
    (visit_senses A.In.Source.left A.In.Source.faults A.Out.Sink.held A.Out.Sink.faults
    A.Time.Clock.to_come) (λ d. A.Door.told d) (λ d. A.Door.faults d) in
    as_lists s c.args.port c.take_seats.new.counters.items c.args.passes.now.items
    c.serve_doors-end.new.counters.items c.leave_seats.new.passes.items
    c.take_seats.ensures.counters c.leave_seats.ensures c.serve_doors-end.result _ _
    c.serve_doors-end.ensures.ends
