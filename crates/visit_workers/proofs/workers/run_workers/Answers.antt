use Rattle.std.proofs.Common.{◌≡◌, ◌≤◌, ◌∙◌, sym, ap, subst, length, map, rules}
use Rattle.std.specs.Prelude.{All}
use Rattle.office_doors.specs.Books.{Moves}
use Rattle.visit_workers.specs.Visits.{visit_senses}
use Rattle.visit_workers.specs.Workers.{AreClosed, worker_senses}
use Rattle.visit_workers.specs.declared.visits.WorkEnd.TheVariants.{Done, DoorFault}
use Rattle.visit_workers.proofs.Employing.{all_faulty, ran_workers}
use Rattle.visit_workers.proofs.Lists.{written}
use Rattle.visit_workers.proofs.workers.run_workers.Goals as goal

pub returns-clause-ran : goal.returns-clause-ran
returns-clause-ran g c =
    let T = g.T.Counter in
    let A = g.S.One in
    let s = worker_senses T.asks
    (visit_senses A.In.Source.left A.In.Source.faults A.Out.Sink.held A.Out.Sink.faults
    A.Time.Clock.to_come) (λ d. A.Door.told d) (λ d. A.Door.faults d) in
    let ws = c.post.new.workers.items in
    let behind = c.run_all.new.workers in
    let same : c.post.new.workers.len ≡ length behind = search rules in
    let whole = written c.post.new.workers.len behind _ same in
    ran_workers s T.standing (λ w. w.counter) (λ w. w.door) (λ w. w.end) ws
    c.as_mut_slice.result.now behind c.args.counters.now.items c.args.opened.items
    c.dismiss.new.counters.items (g.S.Doors.told c.args.doors.now)
    (g.S.Doors.told c.dismiss.new.doors) c.dismiss.result (search rules) c.run_all.ensures.same
    c.run_all.ensures.worked c.post.ensures.counters c.post.ensures.doors
    (c.dismiss.ensures.counters ∙ ap (map (λ w. w.counter)) whole)
    (λ yes. subst (All (λ w. w.end ≡ Done)) whole (c.dismiss.ensures.well yes))
    (subst (λ l. Moves (AreClosed (map (λ w. w.door) l)) (g.S.Doors.told c.args.doors.now)
    (g.S.Doors.told c.dismiss.new.doors)) whole c.dismiss.ensures.closed)

pub returns-clause-cause : goal.returns-clause-cause
returns-clause-cause g c = λ bad.
    let T = g.T.Counter in
    let A = g.S.One in
    let s = worker_senses T.asks
    (visit_senses A.In.Source.left A.In.Source.faults A.Out.Sink.held A.Out.Sink.faults
    A.Time.Clock.to_come) (λ d. A.Door.told d) (λ d. A.Door.faults d) in
    let ws = c.post.new.workers.items in
    let behind = c.run_all.new.workers in
    let same : c.post.new.workers.len ≡ length behind = search rules in
    let whole = written c.post.new.workers.len behind _ same in
    c.dismiss.ensures.cause bad
    (subst (All (λ w. w.end ≡ DoorFault → 1 ≤ A.Door.faults w.door)) (sym whole)
    (all_faulty s T.standing (λ w. w.counter) (λ w. w.door) (λ w. w.end) ws
    c.as_mut_slice.result.now behind c.args.opened.items (search rules) c.run_all.ensures.same
    c.run_all.ensures.worked c.post.ensures.doors c.requires.quiet))
