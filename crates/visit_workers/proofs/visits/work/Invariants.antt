use Rattle.std.proofs.Common.{◌≤◌}
use Rattle.office_doors.specs.Books.{HasAllBack, WhereTold}
use Rattle.visit_workers.specs.Visits.{ServesVisits, visit_senses}
use Rattle.visit_workers.proofs.visits.work.Given as goal

abbrev pub invariant-loop : goal.invariant-loop
invariant-loop g l = record {
  works : ServesVisits g.T.Counter.asks (visit_senses g.A.In.Source.left g.A.In.Source.faults
      g.A.Out.Sink.held g.A.Out.Sink.faults g.A.Time.Clock.to_come) l.fn.counter l.counter
      (g.A.Door.told l.fn.door) (g.A.Door.told l.door);
  back : WhereTold HasAllBack (g.A.Door.told l.door);
  later : g.A.Door.faults l.fn.door ≤ g.A.Door.faults l.door;
}
