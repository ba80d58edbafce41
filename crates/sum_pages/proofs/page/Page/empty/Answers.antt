use Rattle.sum_pages.proofs.PageFacts.{IsPage-none}
use Rattle.sum_pages.proofs.page.Page.empty.Goals as goal

pub invariant_of-result : goal.invariant_of-result
invariant_of-result c =
    rw (c.in_ok-leaves.ensures, c.in_ok-hours.ensures) (IsPage-none c.args.per_hour)
