use Rattle.std.proofs.Common.{◌≤◌, ◌-◌, length}
use Rattle.message_session.specs.Fillings.{Fills}
use Rattle.message_session.proofs.hearing.fill.Given as goal

abbrev pub invariant-filling : goal.invariant-filling
invariant-filling g l = record {
  fills : Fills l.fn.buffer l.buffer (g.S.Source.left l.fn.input) (g.S.Source.left l.input);
  later : g.S.Source.faults l.fn.input ≤ g.S.Source.faults l.input;
}

abbrev pub decreases-filling : goal.decreases-filling
decreases-filling g l = l.needed - length l.buffer
