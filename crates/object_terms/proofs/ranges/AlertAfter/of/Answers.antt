use Rattle.std.proofs.Common.{sym}
use Rattle.object_terms.proofs.RangeLemmas.{wait_is}
use Rattle.object_terms.proofs.ranges.AlertAfter.of.Goals as goal

pub returns-then-rolling_minutes-le-MAX_LOOKBACK : goal.returns-then-rolling_minutes-le-MAX_LOOKBACK
returns-then-rolling_minutes-le-MAX_LOOKBACK c = sym (wait_is.again _)
