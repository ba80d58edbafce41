use Rattle.std.proofs.Common.{◌≤◌, ◌-◌, length}
use Rattle.office_outside.specs.Told.{Lost}
use Rattle.office_follow.proofs.pieces.fill.Given as goal

-- what was read so far is what the input lost
abbrev pub invariant-reading : goal.invariant-reading
invariant-reading g l = record {
  few : length l.out.items ≤ l.most;
  lost : Lost l.out.items (g.S.Source.left l.initial.input) (g.S.Source.left l.input);
  later : g.S.Source.faults l.initial.input ≤ g.S.Source.faults l.input;
}

abbrev pub decreases-reading : goal.decreases-reading
decreases-reading g l = l.most - length l.out.items
