use Rattle.std.proofs.Common.{◌*◌}
use Rattle.window_sums.specs.Slices.{HasAtMost, counts_of}
use Rattle.sample_tests.proofs.sums_of_windows.four_hundred_days.Given as goal

abbrev pub invariant-loop-minute : goal.invariant-loop-minute
invariant-loop-minute g l = record {
  few : HasAtMost l.sums.method (counts_of l.sums) (l.minute * 2000000000);
}
