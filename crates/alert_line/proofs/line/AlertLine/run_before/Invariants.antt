use Rattle.std.proofs.Common.{◌≤◌, ◌+◌, ◌-◌, ◌*◌, IfSome}
use Rattle.window_sums.specs.Slices.{leaf_at, width_of}
use Rattle.alert_line.specs.Cursor.{IsBehind}
use Rattle.alert_line.specs.Line.{SameAlert, condition_on}
use Rattle.alert_line.specs.Learnt.{IsLearnt, IsRun, unknown_in}
use Rattle.alert_line.proofs.line.AlertLine.run_before.Given as goal

abbrev pub invariant-loop-at : goal.invariant-loop-at
invariant-loop-at g l = record {
  begun : l.start ≤ l.at;
  within : l.at ≤ l.minute;
  learnt : IsLearnt l.fn.self l.self l.sums l.start l.at;
  alert : SameAlert l.fn.self l.self;
  behind : IfSome l.cursor (IsBehind l.fn.self.rule (width_of l.sums.method) (leaf_at l.sums) l.at);
  run : IsRun (condition_on l.fn.self l.sums) l.start l.at l.run;
  steps : l.steps ≤ l.fn.steps + 2400 * unknown_in l.fn.self l.start (l.at - l.start);
}

abbrev pub decreases-loop-at : goal.decreases-loop-at
decreases-loop-at g l = l.minute - l.at
