use Rattle.std.proofs.Common.{◌≡◌, length, All}
use Rattle.turn_desk.proofs.Gathering.{Stands}
use Rattle.turn_desk.proofs.desk.Desk.gather.Given as goal

abbrev pub invariant-loop-next : goal.invariant-loop-next
invariant-loop-next g l = record {
  stands : Stands l.fn.passes.items l.passes.items l.pass;
  desk : l.pass.desk ≡ l.fn.self;
  rest : All (λ p. p.desk ≡ l.fn.self) l.passes.items;
}

abbrev pub decreases-loop-next : goal.decreases-loop-next
decreases-loop-next g l = length l.passes.items
