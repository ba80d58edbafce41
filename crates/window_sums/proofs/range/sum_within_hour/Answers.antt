use Rattle.sum_pages.specs.Pages.{leaf_at}
use Rattle.window_sums.proofs.RangeFacts.{none-behind}
use Rattle.window_sums.proofs.range.sum_within_hour.Goals as goal

pub returns-then-to-from-clause-value : goal.returns-then-to-from-clause-value
returns-then-to-from-clause-value g c =
    none-behind (leaf_at c.args.pages.now) c.args.from c.args.to c.if-to-from.true
