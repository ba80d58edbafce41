use Rattle.std.proofs.Common.{◌≡◌, ◌≤◌, ◌+◌, length}
use Rattle.std.specs.Vec.Iter.{into_iter_items, into_iter_len}
use Rattle.office_doors.specs.DoorsMemory.{entrance_of}
use Rattle.outside_tests.proofs.memory_doors.serve_and_close.Given as goal

abbrev pub invariant-loop-door : goal.invariant-loop-door
invariant-loop-door l = record {
  len : into_iter_len l.door-iterator ≡ length (into_iter_items l.door-iterator);
  open_ones : length (entrance_of l.doors).closed + length (into_iter_items l.door-iterator)
      ≤ (entrance_of l.doors).opened;
}
