use Rattle.std.proofs.Common.{◌/◌, ◌∙◌, arith}
use Rattle.sum_pages.specs.Pages.{leaf_at}
use Rattle.window_sums.proofs.EmptinessFacts.{units-before, units-behind, units-whole}
use Rattle.window_sums.proofs.RangeFacts.{IsCut, is_cut}
use Rattle.window_sums.proofs.emptiness.hours_are_empty.Given.{Over}
use Rattle.window_sums.proofs.emptiness.hours_are_empty.Goals as goal
use Rattle.window_sums.proofs.emptiness.hours_are_empty.Goals.{After-are_empty-2}

-- the hours are cut at whole days
cut : (g : Over) (c : After-are_empty-2 g)
    → IsCut c.args.from c.args.to 24 c.div_ceil-first.result (c.args.to / 24)
cut g c = is_cut c.args.from c.args.to 24 c.div_ceil-first.result (omega arith)
    c.div_ceil-first.ensures c.if-end-first.false

pub returns-then-not-are_empty-clause-value : goal.returns-then-not-are_empty-clause-value
returns-then-not-are_empty-clause-value g c =
    let at = goal.at.returns-then-not-are_empty-clause-value g c in
    units-behind (leaf_at c.args.pages.now) c.args.from c.args.to c.div_ceil-first.result
    (c.args.to / 24) 24 c.args.pages.now.per_hour (cut g at.After-are_empty-2)
    c.if-not-are_empty.ensures.value

pub returns-then-not-are_empty-2-clause-value : goal.returns-then-not-are_empty-2-clause-value
returns-then-not-are_empty-2-clause-value g c =
    let at = goal.at.returns-then-not-are_empty-2-clause-value g c in
    units-whole (leaf_at c.args.pages.now) c.args.from c.args.to c.div_ceil-first.result
    (c.args.to / 24) 24 c.args.pages.now.per_hour (cut g at.After-are_empty-2)
    c.if-not-are_empty-2.ensures.value

pub returns-clause-value : goal.returns-clause-value
returns-clause-value g c =
    let at = goal.at.returns-clause-value g c in
    c.are_empty-4.ensures.value
    ∙ units-before (leaf_at c.args.pages.now) c.args.from c.args.to c.div_ceil-first.result
    (c.args.to / 24) 24 c.args.pages.now.per_hour (cut g at.After-are_empty-2)
    c.if-not-are_empty.ensures.value c.if-not-are_empty-2.ensures.value
