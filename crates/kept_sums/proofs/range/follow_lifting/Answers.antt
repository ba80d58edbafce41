use Rattle.std.proofs.Common.{◌+◌, arith}
use Rattle.kept_sums.proofs.FollowLemmas.{same_days}
use Rattle.kept_sums.proofs.RangeLemmas.{rest_of_day}
use Rattle.kept_sums.proofs.range.follow_lifting.Goals as goal

pub follow_between-requires-clause-one_day : goal.follow_between-requires-clause-one_day
follow_between-requires-clause-one_day c = λ minute a b.
    rest_of_day c.loop-from.from (c.loop-from.from + c.min.result) minute
    (omega (arith, c.min.ensures)) a b

pub follow_between-requires-clause-days : goal.follow_between-requires-clause-days
follow_between-requires-clause-days c =
    same_days c.args.measure.now c.args.book.now.rows c.args.sums.now c.loop-from.sums
    c.loop-from.invariant.days c.requires.days
