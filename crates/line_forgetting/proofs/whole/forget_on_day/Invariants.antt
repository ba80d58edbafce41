use Rattle.std.proofs.Common.{◌≡◌, ◌+◌, ◌-◌, ◌≤◌}
use Rattle.burn_core.specs.Alert.{reach_of}
use Rattle.line_forgetting.specs.Touched.{IsCountedUntil, TouchesEach}
use Rattle.line_forgetting.proofs.whole.forget_on_day.Given as goal

-- the slices of the day so far are passed
abbrev pub invariant-loop-place : goal.invariant-loop-place
invariant-loop-place l = record {
  rule : l.line.rule ≡ l.rule;
  from : l.first - l.start ≤ l.place;
  touched : TouchesEach (IsCountedUntil l.sums l.first l.end l.day (l.start + l.place)) l.width
      (reach_of l.rule) l.fn.waiting l.run l.fn.line l.line;
}
