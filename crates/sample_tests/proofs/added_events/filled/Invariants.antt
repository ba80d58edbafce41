use Rattle.std.proofs.Common.{◌*◌}
use Rattle.window_sums.specs.Slices.{HasAtMost, counts_of}
use Rattle.sample_tests.proofs.added_events.filled.Given as goal

abbrev pub invariant-loop-place : goal.invariant-loop-place
invariant-loop-place g l = record {
  few : HasAtMost l.sums.method (counts_of l.sums) (l.place * 2000000000);
}
