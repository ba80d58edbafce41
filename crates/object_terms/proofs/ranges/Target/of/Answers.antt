use Rattle.std.proofs.Common.{sym}
use Rattle.object_terms.proofs.RangeLemmas.{target_is}
use Rattle.object_terms.proofs.ranges.Target.of.Goals as goal

pub returns-then-billionths-lt-WHOLE : goal.returns-then-billionths-lt-WHOLE
returns-then-billionths-lt-WHOLE c = sym (target_is.again _)
