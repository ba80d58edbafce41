use Rattle.std.proofs.Common.{sym}
use Rattle.object_terms.proofs.RangeLemmas.{window_is}
use Rattle.object_terms.proofs.ranges.WindowLength.of.Goals as goal

pub returns-then-rolling_minutes-le-MAX_WINDOW : goal.returns-then-rolling_minutes-le-MAX_WINDOW
returns-then-rolling_minutes-le-MAX_WINDOW c = sym (window_is.again _)
