use Rattle.std.proofs.Common.{subst}
use Rattle.window_sums.specs.Slices.{AreCounted}
use Rattle.window_sums.proofs.window_sums.WindowSums.counted.Goals as goal

pub returns : goal.returns
returns c = subst AreCounted c.self.view_is c.self.invariant.counts.counted
