use Rattle.std.proofs.Common.{◌≡◌, ◌+◌, ◌-◌, ◌*◌, ◌≤◌}
use Rattle.window_sums.specs.Slices.{leaf_at, width_of}
use Rattle.alert_line.specs.Cursor.{StandAt, lag_of, rule_of}
use Rattle.alert_line.proofs.cursor.Cursor.move_to.Given as goal

abbrev pub invariant-loop-at : goal.invariant-loop-at
invariant-loop-at g l = record {
  at : l.self.minute ≡ l._at;
  rule : rule_of l.self.windows ≡ rule_of l.fn.self.windows;
  stand : StandAt (width_of l.sums.method) (leaf_at l.sums) l.self.minute l.self.windows;
  paid : l.steps + 2 * lag_of l.self
      ≤ l.fn.steps + 2 * lag_of l.fn.self + 8 * (l._at - l.fn.self.minute);
  steps : l.steps ≤ l.fn.steps + 8 * (l._at - l.fn.self.minute);
}
