use Rattle.std.proofs.Common.{◌≡◌, ◌++◌, length}
use Rattle.std.specs.Vec.Iter.{into_iter_items, into_iter_len}
use Rattle.office_doors.specs.Books.{Moves, WhereTold}
use Rattle.visit_workers.specs.Workers.{AreClosed, HasRoom}
use Rattle.office_serving.proofs.serving.shut.Given as goal

abbrev pub invariant-loop-door : goal.invariant-loop-door
invariant-loop-door g l = record {
  all : l.yielded ++ into_iter_items l.door-iterator ≡ into_iter_items l.initial.door-iterator;
  len : into_iter_len l.door-iterator ≡ length (into_iter_items l.door-iterator);
  open_yet : WhereTold (HasRoom (length (into_iter_items l.door-iterator)))
      (g.S.Doors.told l.doors);
  closed_so : Moves (AreClosed l.yielded) (g.S.Doors.told l.initial.doors)
      (g.S.Doors.told l.doors);
  ports : g.S.Doors.ports l.doors ≡ g.S.Doors.ports l.initial.doors;
}
