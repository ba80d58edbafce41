use Rattle.std.proofs.Common.{sym}
use Rattle.object_terms.proofs.RangeLemmas.{width_is}
use Rattle.object_terms.proofs.ranges.SliceWidth.of.Goals as goal

pub returns-then-minutes-eq0 : goal.returns-then-minutes-eq0
returns-then-minutes-eq0 c = sym (width_is.again _)
