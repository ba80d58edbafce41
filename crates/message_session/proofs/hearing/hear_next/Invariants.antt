use Rattle.std.proofs.Common.{◌≤◌, ◌-◌, length}
use Rattle.message_session.specs.Fillings.{Fills}
use Rattle.message_heads.specs.declared.reading.TheConstants.{MAX_MESSAGE_BYTES}
use Rattle.message_session.proofs.hearing.hear_next.Given as goal

abbrev pub invariant-hearing : goal.invariant-hearing
invariant-hearing g l = record {
  fills : Fills l.fn.buffer l.buffer (g.S.Source.left l.fn.input) (g.S.Source.left l.input);
  later : g.S.Source.faults l.fn.input ≤ g.S.Source.faults l.input;
}

abbrev pub decreases-hearing : goal.decreases-hearing
decreases-hearing g l = MAX_MESSAGE_BYTES - length l.buffer
