use Rattle.std.proofs.Common.{sym, subst}
use Rattle.sum_pages.specs.Pages.{ArePages}
use Rattle.sum_pages.proofs.PagesFacts.{ArePages-none}
use Rattle.sum_pages.proofs.sum_pages.SumPages.new.Goals as goal

pub invariant_of-result : goal.invariant_of-result
invariant_of-result c =
    subst (λ n. ArePages (record { per_hour = n; days = c.new-2.result.entries }))
    (sym c.new.ensures)
    (subst (λ es. ArePages (record { per_hour = c.args.per_hour; days = es }))
    (sym c.new-2.ensures.empty) (ArePages-none c.args.per_hour c.requires.hour))
