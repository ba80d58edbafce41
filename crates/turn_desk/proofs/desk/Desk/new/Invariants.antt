use Rattle.std.proofs.Common.{◌≡◌, ◌+◌, ◌-◌, ◌≤◌, length, All}
use Rattle.std.specs.Prelude.{vec_capacity}
use Rattle.turn_desk.specs.Passes.{newcomer, with_parts}
use Rattle.turn_desk.proofs.desk.Desk.new.Given as goal

abbrev pub invariant-loop : goal.invariant-loop
invariant-loop g l = record {
  pass : l.pass ≡ with_parts (l.passes - length l.list.items)
      (newcomer l.desk (g.T.Ledgered.ledger l.fn.value) l.passes);
  made : All (λ p. p ≡ newcomer l.desk (g.T.Ledgered.ledger l.fn.value) l.passes) l.list.items;
  count : length l.list.items + 1 ≡ l.counter;
  room : l.passes ≤ vec_capacity l.list;
}
