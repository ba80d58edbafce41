use Rattle.std.proofs.Common.{sym, subst, arith}
use Rattle.slo_terms.proofs.RangeLemmas.{sum_over-none}
use Rattle.sum_pages.specs.Pages.{HasAtMost}
use Rattle.sample_tests.proofs.leaf_pages.start.Goals as goal

pub returns : goal.returns
returns c =
    let per_hour = c.new.result.per_hour in
    subst (λ days. HasAtMost (record { per_hour = per_hour; days = days }) 0)
    (sym c.new.ensures.days)
    (record { few = λ first count. omega (arith, sum_over-none first count) })
