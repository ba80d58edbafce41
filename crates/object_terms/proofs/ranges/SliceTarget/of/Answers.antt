use Rattle.std.proofs.Common.{sym}
use Rattle.object_terms.proofs.RangeLemmas.{slice_target_is}
use Rattle.object_terms.proofs.ranges.SliceTarget.of.Goals as goal

pub returns-then-billionths-le-WHOLE : goal.returns-then-billionths-le-WHOLE
returns-then-billionths-le-WHOLE c = sym (slice_target_is.again _)
