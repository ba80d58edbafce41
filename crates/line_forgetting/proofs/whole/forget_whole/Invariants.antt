use Rattle.std.proofs.Common.{◌≡◌}
use Rattle.burn_core.specs.Alert.{reach_of}
use Rattle.line_forgetting.specs.Touched.{IsCountedBefore, TouchesEach}
use Rattle.line_forgetting.proofs.whole.forget_whole.Given as goal

-- the slices of the days so far are passed
abbrev pub invariant-loop-day : goal.invariant-loop-day
invariant-loop-day l = record {
  rule : l.line.rule ≡ l.rule;
  touched : TouchesEach (IsCountedBefore l.sums l.first l.end l.day) l.width (reach_of l.rule)
      l.fn.waiting l.run l.fn.line l.line;
}
