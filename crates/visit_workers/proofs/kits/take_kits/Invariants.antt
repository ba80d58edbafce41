use Rattle.std.proofs.Common.{◌≡◌, ◌≤◌, length, vec_capacity}
use Rattle.visit_workers.proofs.kits.take_kits.Given as goal

abbrev pub invariant-loop : goal.invariant-loop
invariant-loop l = record {
  count : length l.kits.items ≡ l.counter;
  room : l.workers ≤ vec_capacity l.kits;
}
