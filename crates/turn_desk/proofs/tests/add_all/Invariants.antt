use Rattle.std.proofs.Common.{◌≡◌}
use Rattle.turn_desk.proofs.tests.add_all.Given as goal

abbrev pub invariant-loop-k : goal.invariant-loop-k
invariant-loop-k g l = l.pass.desk ≡ l.fn.desk
