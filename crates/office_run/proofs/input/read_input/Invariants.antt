use Rattle.std.proofs.Common.{◌+◌, ◌≤◌, ◌-◌, length}
use Rattle.office_outside.specs.Told.{Lost}
use Rattle.office_run.proofs.input.read_input.Given as goal

-- what was read so far is what the source lost
abbrev pub invariant-reading : goal.invariant-reading
invariant-reading g l = record {
  few : length l.bytes.items ≤ l.most + 1;
  lost : Lost l.bytes.items (g.S.Source.left l.initial.input) (g.S.Source.left l.input);
  later : g.S.Source.faults l.initial.input ≤ g.S.Source.faults l.input;
}

abbrev pub decreases-reading : goal.decreases-reading
decreases-reading g l = l.most + 1 - length l.bytes.items
