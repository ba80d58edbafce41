use Rattle.std.proofs.Common.{◌<◌, ◌≤◌, subst, sym}
use Rattle.sum_pages.proofs.PagesFacts.{hour-few, hour-some}
use Rattle.sum_pages.proofs.sum_pages.SumPages.per_hour.Goals as goal

pub returns-clause-some : goal.returns-clause-some
returns-clause-some c = subst (λ n. 0 < n) (sym c.count.ensures)
    (hour-some c.self.inside.per_hour c.self.invariant.divides)

pub returns-clause-few : goal.returns-clause-few
returns-clause-few c = subst (λ n. n ≤ 60) (sym c.count.ensures)
    (hour-few c.self.inside.per_hour c.self.invariant.divides)
