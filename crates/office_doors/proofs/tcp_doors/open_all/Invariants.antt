use Rattle.std.proofs.Common.{◌≡◌, ◌≤◌, length, vec_capacity}
use Rattle.std.specs.List.{All}
use Rattle.office_doors.proofs.tcp_doors.open_all.Given as goal

abbrev pub invariant-loop : goal.invariant-loop
invariant-loop g l = record {
  count : length l.doors.items ≡ l.counter;
  room : l.workers ≤ vec_capacity l.doors;
  quiet : All (λ d. d.faults ≡ 0) l.doors.items;
}
