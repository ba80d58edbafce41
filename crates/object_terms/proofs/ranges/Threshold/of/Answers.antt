use Rattle.std.proofs.Common.{sym}
use Rattle.object_terms.proofs.RangeLemmas.{threshold_is}
use Rattle.object_terms.proofs.ranges.Threshold.of.Goals as goal

pub returns-then-billionths-le-MAX_THRESHOLD : goal.returns-then-billionths-le-MAX_THRESHOLD
returns-then-billionths-le-MAX_THRESHOLD c = sym (threshold_is.again _)
