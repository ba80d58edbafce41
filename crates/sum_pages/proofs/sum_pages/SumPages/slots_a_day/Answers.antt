use Rattle.std.proofs.Common.{arith}
use Rattle.sum_pages.proofs.PagesFacts.{hour-few, hour-some}
use Rattle.sum_pages.proofs.sum_pages.SumPages.slots_a_day.Goals as goal

pub overflow_mul-result : goal.overflow_mul-result
overflow_mul-result c = omega (arith, hour-few c.self.inside.per_hour c.self.invariant.divides)

pub returns-clause-some : goal.returns-clause-some
returns-clause-some c = omega (arith, hour-some c.self.inside.per_hour c.self.invariant.divides)
