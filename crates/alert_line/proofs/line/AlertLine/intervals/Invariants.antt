use Rattle.std.proofs.Common.{◌≤◌, ◌+◌, ◌-◌, ◌*◌, IfSome}
use Rattle.burn_core.specs.Alert.{wait_of}
use Rattle.burn_core.specs.Timeline.{AreSpansOf, IsActive}
use Rattle.window_sums.specs.Slices.{leaf_at, width_of}
use Rattle.alert_line.specs.Cursor.{IsBehind}
use Rattle.alert_line.specs.Learnt.{IsLearnt, IsRun, unknown_in}
use Rattle.alert_line.specs.Line.{SameAlert, condition_on}
use Rattle.alert_line.proofs.SpanLemmas.{EndBy}
use Rattle.alert_line.proofs.line.AlertLine.intervals.Given as goal

abbrev pub invariant-loop-minute : goal.invariant-loop-minute
invariant-loop-minute g l = record {
  begun : l.start ≤ l.minute;
  within : l.minute ≤ l.to;
  learnt : IsLearnt l.fn.self l.self l.sums l.start l.minute;
  alert : SameAlert l.fn.self l.self;
  behind : IfSome l.cursor
      (IsBehind l.fn.self.rule (width_of l.sums.method) (leaf_at l.sums) l.minute);
  spans : AreSpansOf (IsActive (wait_of l.fn.self.rule) (condition_on l.fn.self l.sums)) l.from
      l.minute l.spans.items;
  ends : EndBy l.minute l.spans.items;
  run : IsRun (condition_on l.fn.self l.sums) l.start l.minute l.run;
  steps : l.steps ≤ l.fn.steps + 2400 * unknown_in l.fn.self l.start (l.minute - l.start);
}

abbrev pub decreases-loop-minute : goal.decreases-loop-minute
decreases-loop-minute g l = l.to - l.minute
