use Rattle.std.proofs.Common.{◌≡◌}
use Rattle.exact_fraction.specs.Ratio.{gcd}
use Rattle.exact_fraction.proofs.fraction.gcd.Given as goal

-- the remaining pair has the divisors of the first
abbrev pub invariant-loop-y : goal.invariant-loop-y
invariant-loop-y l = gcd l.x l.y ≡ gcd l.fn.a l.fn.b

abbrev pub decreases-loop-y : goal.decreases-loop-y
decreases-loop-y l = l.y
