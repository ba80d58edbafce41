use Rattle.std.proofs.Common.{◌≡◌, ◌∙◌, refl, rules}
use Rattle.office_outside.specs.Told.{Gained, GainedPrefix}
use Rattle.visit_workers.specs.Visits.{visit_senses}
use Rattle.visit_workers.specs.Workers.{worker_senses}
use Rattle.office_serving.specs.Serving.{ready_line}
use Rattle.office_serving.proofs.Endings.{after_work, not_ready}
use Rattle.office_serving.proofs.serving.serve_doors.Goals as goal

pub returns-then-is_err-2-clause-ends : goal.returns-then-is_err-2-clause-ends
returns-then-is_err-2-clause-ends g c =
    let A = g.S.One in
    let s = worker_senses g.T.Counter.asks
    (visit_senses A.In.Source.left A.In.Source.faults A.Out.Sink.held A.Out.Sink.faults
    A.Time.Clock.to_come) (λ d. A.Door.told d) (λ d. A.Door.faults d) in
    let counters = c.args.counters.now.items in
    let part : GainedPrefix ready_line (g.K.Sink.held c.args.ready.now)
    (g.K.Sink.held c.say_ready.new.ready) = search rules in
    not_ready s c.args.port (counters ≡ counters) c.in-Ok-open.opened.items
    (g.S.Doors.told c.args.doors.now)
    (g.S.Doors.told c.open.new.self) (g.S.Doors.told c.shut.new.doors)
    (g.S.Doors.ports c.args.doors.now) (g.S.Doors.ports c.shut.new.doors)
    (g.K.Sink.held c.args.ready.now) (g.K.Sink.held c.say_ready.new.ready)
    (record {
      count = c.in-Ok-open.ensures.count;
      fresh = c.in-Ok-open.ensures.fresh;
      tell = c.in-Ok-open.ensures.tells;
    }) (c.shut.ensures.ports ∙ c.open.ensures.port) part c.in-Ok-open.ensures.shared
    c.shut.ensures.closed refl

pub returns-clause-ends : goal.returns-clause-ends
returns-clause-ends g c =
    let T = g.T.Counter in
    let A = g.S.One in
    let s = worker_senses T.asks
    (visit_senses A.In.Source.left A.In.Source.faults A.Out.Sink.held A.Out.Sink.faults
    A.Time.Clock.to_come) (λ d. A.Door.told d) (λ d. A.Door.faults d) in
    let counters = c.args.counters.now.items in
    let now = c.run_workers-well.new.counters.items in
    let gained : Gained ready_line (g.K.Sink.held c.args.ready.now)
    (g.K.Sink.held c.say_ready.new.ready) = search rules in
    after_work s c.args.port (now ≡ counters) T.standing counters
    c.in-Ok-open.opened.items (g.S.Doors.told c.args.doors.now)
    (g.S.Doors.told c.open.new.self) (g.S.Doors.told c.run_workers-well.new.doors)
    (g.S.Doors.ports c.args.doors.now) (g.S.Doors.ports c.run_workers-well.new.doors)
    (g.K.Sink.held c.args.ready.now) (g.K.Sink.held c.say_ready.new.ready) now
    c.run_workers-well.result c.end_of_work.result c.end_of_work.ensures.yes
    c.end_of_work.ensures.no
    (record {
      count = c.in-Ok-open.ensures.count;
      fresh = c.in-Ok-open.ensures.fresh;
      tell = c.in-Ok-open.ensures.tells;
    }) (c.run_workers-well.ensures.ports ∙ c.open.ensures.port) gained
    c.in-Ok-open.ensures.shared c.run_workers-well.ensures.ran
