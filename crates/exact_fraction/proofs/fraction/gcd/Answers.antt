use Rattle.std.proofs.Common.{◌∙◌, arith}
use Rattle.exact_fraction.proofs.LowestTerms.{gcd-step}
use Rattle.exact_fraction.proofs.fraction.gcd.Goals as goal

pub loop-y-preserved : goal.loop-y-preserved
loop-y-preserved c = gcd-step c.loop-y.x c.loop-y.y (omega arith) ∙ c.loop-y.invariant
