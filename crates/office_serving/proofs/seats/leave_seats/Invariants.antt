use Rattle.std.proofs.Common.{◌≡◌, ◌≤◌, ◌+◌, ◌++◌, length}
use Rattle.std.specs.Prelude.{vec_capacity}
use Rattle.std.specs.Vec.Iter.{into_iter_items, into_iter_len}
use Rattle.office_serving.proofs.seats.leave_seats.Given as goal

abbrev pub invariant-loop-counter : goal.invariant-loop-counter
invariant-loop-counter g l = record {
  all : l.yielded ++ into_iter_items l.counter-iterator
      ≡ into_iter_items l.initial.counter-iterator;
  len : into_iter_len l.counter-iterator ≡ length (into_iter_items l.counter-iterator);
  passes : l.passes.items ≡ l.yielded;
  space : length l.passes.items + length (into_iter_items l.counter-iterator)
      ≤ vec_capacity l.passes;
}
