use Rattle.std.proofs.Common.{sym}
use Rattle.object_terms.proofs.RangeLemmas.{lookback_is}
use Rattle.object_terms.proofs.ranges.Lookback.of.Goals as goal

pub returns-then-rolling_minutes-le-MAX_LOOKBACK : goal.returns-then-rolling_minutes-le-MAX_LOOKBACK
returns-then-rolling_minutes-le-MAX_LOOKBACK c = sym (lookback_is.again _)
