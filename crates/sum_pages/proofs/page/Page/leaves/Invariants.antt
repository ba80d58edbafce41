use Rattle.std.proofs.Common.{◌≡◌, ◌-◌}
use Rattle.slo_terms.specs.Sums.{leaves_over}
use Rattle.sum_pages.specs.Pages.{leaf_in}
use Rattle.sum_pages.proofs.page.Page.leaves.Given as goal

abbrev pub invariant-loop-at : goal.invariant-loop-at
invariant-loop-at l = l.sum ≡ leaves_over (leaf_in l.fn.self) l.fn.from (l.at - l.fn.from)
