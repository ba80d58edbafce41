use Rattle.std.proofs.Common.{◌≡◌, ◌+◌, ◌-◌, ◌*◌, ◌≤◌}
use Rattle.window_sums.specs.Slices.{leaf_at, width_of}
use Rattle.alert_line.specs.Cursor.{IsOver}
use Rattle.alert_line.proofs.late.LateWindow.move_to.Given as goal

abbrev pub invariant-loop-at : goal.invariant-loop-at
invariant-loop-at g l = record {
  stays : l.self.minute ≡ l.fn.self.minute;
  over : IsOver (width_of l.sums.method) (leaf_at l.sums) l.fn.length l.at l.self.window;
  steps : l.steps ≤ l.fn.steps + 2 * (l.at - l.fn.self.minute);
}
