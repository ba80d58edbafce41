use Rattle.std.proofs.Common.{◌≡◌, ◌≤◌, ◌+◌, ◌++◌, true, false, length, All, map}
use Rattle.std.specs.Prelude.{min, vec_capacity}
use Rattle.std.specs.Vec.Iter.{into_iter_items, into_iter_len}
use Rattle.office_outside.specs.Faults.{Rose, last_count}
use Rattle.office_doors.specs.Books.{Moves, WhereTold}
use Rattle.visit_workers.specs.Workers.{AreClosed, HasRoom}
use Rattle.visit_workers.specs.declared.visits.WorkEnd.TheVariants.{Done, DoorFault}
use Rattle.visit_workers.proofs.workers.dismiss.Given as goal

abbrev pub invariant-loop-worker : goal.invariant-loop-worker
invariant-loop-worker g l = record {
  all : l.yielded ++ into_iter_items l.worker-iterator
      ≡ into_iter_items l.initial.worker-iterator;
  len : into_iter_len l.worker-iterator ≡ length (into_iter_items l.worker-iterator);
  counters : l.counters.items ≡ map (λ w. w.counter) l.yielded;
  open_yet : WhereTold (HasRoom (length (into_iter_items l.worker-iterator)))
      (g.S.Doors.told l.doors);
  closed_so : Moves (AreClosed (map (λ w. w.door) l.yielded))
      (g.S.Doors.told l.initial.doors) (g.S.Doors.told l.doors);
  ports : g.S.Doors.ports l.doors ≡ g.S.Doors.ports l.initial.doors;
  well : l.well ≡ true → All (λ w. w.end ≡ Done) l.yielded;
  low : min (g.S.Doors.faults l.initial.doors) last_count ≤ g.S.Doors.faults l.doors;
  cause : l.well ≡ false
      → All (λ w. w.end ≡ DoorFault → 1 ≤ g.S.One.Door.faults w.door) l.yielded
      → Rose (g.S.Doors.faults l.initial.doors) (g.S.Doors.faults l.doors);
  space : length l.counters.items + length (into_iter_items l.worker-iterator)
      ≤ vec_capacity l.counters;
}
