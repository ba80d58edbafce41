use Rattle.std.proofs.Common.{◌+◌, ◌≤◌, ◌-◌}
use Rattle.budget_command.specs.Input.{HasTakenBytes}
use Rattle.budget_command.specs.declared.TheConstants.{MAX_INPUT_BYTES}
use Rattle.budget_command.proofs.input.judge_input.Given as goal

-- the bytes that the source lost are judged, but for those that wait
abbrev pub invariant-reading : goal.invariant-reading
invariant-reading g l = record {
  so_far : HasTakenBytes (g.S.Source.left l.initial.input) (g.S.Source.left l.input) l.taken
      l.waiting l.judging;
  few : l.taken ≤ MAX_INPUT_BYTES + 1;
  later : g.S.Source.faults l.initial.input ≤ g.S.Source.faults l.input;
}

abbrev pub decreases-reading : goal.decreases-reading
decreases-reading g l = MAX_INPUT_BYTES + 1 - l.taken
