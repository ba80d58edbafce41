use Rattle.std.proofs.Common.{◌≡◌, ◌≤◌, ◌+◌, ◌++◌, length, All}
use Rattle.std.specs.Prelude.{vec_capacity}
use Rattle.office_serving.proofs.seats.take_seats.Given as goal

abbrev pub invariant-loop : goal.invariant-loop
invariant-loop g l = record {
  made : l.counters.items ++ l.passes.items ≡ l.initial.passes.items;
  left : l.counter + length l.passes.items ≡ l.count;
  desk : All (λ p. p.desk ≡ l.desk) l.passes.items;
  room : vec_capacity l.passes ≡ vec_capacity l.initial.passes;
  space : length l.counters.items + length l.passes.items ≤ vec_capacity l.counters;
}
