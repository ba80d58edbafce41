use Rattle.std.proofs.Common.{◌≡◌, ◌≤◌, ◌+◌, ◌++◌, length, take, drop}
use Rattle.std.specs.VecDeque.{deque_capacity}
use Rattle.office_doors.proofs.room.move_first.Given as goal

abbrev pub invariant-loop : goal.invariant-loop
invariant-loop g l = record {
  there : l.count ≤ length l.initial.from.items;
  rest : l.from.items ≡ drop l.counter l.initial.from.items;
  moved : l.to.items ≡ l.initial.to.items ++ take l.counter l.initial.from.items;
  space : length l.initial.to.items + l.count ≤ deque_capacity l.to;
}
