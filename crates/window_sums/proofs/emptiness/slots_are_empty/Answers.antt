use Rattle.std.proofs.Common.{◌==◌, ◌/◌, ap, sym, ◌∙◌, arith}
use Rattle.sum_pages.specs.Pages.{leaf_at}
use Rattle.window_sums.proofs.EmptinessFacts.{den_of, slots-before, slots-behind, slots-whole}
use Rattle.window_sums.proofs.RangeFacts.{IsCut, is_cut, reads-few}
use Rattle.window_sums.proofs.emptiness.slots_are_empty.Given.{Over}
use Rattle.window_sums.proofs.emptiness.slots_are_empty.Goals as goal
use Rattle.window_sums.proofs.emptiness.slots_are_empty.Goals.{After-are_empty-2}

-- the range is cut at whole hours
cut : (g : Over) (c : After-are_empty-2 g) → IsCut c.args.from c.args.to c.per_hour-per_hour.result
    c.div_ceil-first.result (c.args.to / c.per_hour-per_hour.result)
cut g c = is_cut c.args.from c.args.to c.per_hour-per_hour.result c.div_ceil-first.result
    c.per_hour-per_hour.ensures.some c.div_ceil-first.ensures c.if-end-first.false

pub returns-then-not-are_empty-clause-value : goal.returns-then-not-are_empty-clause-value
returns-then-not-are_empty-clause-value g c =
    let at = goal.at.returns-then-not-are_empty-clause-value g c in
    slots-behind (leaf_at c.args.pages.now) c.args.from c.args.to c.div_ceil-first.result
    (c.args.to / c.per_hour-per_hour.result) c.per_hour-per_hour.result
    (cut g at.After-are_empty-2) c.if-not-are_empty.ensures.value

pub returns-then-not-hours_are_empty-clause-value :
    goal.returns-then-not-hours_are_empty-clause-value
returns-then-not-hours_are_empty-clause-value g c =
    let at = goal.at.returns-then-not-hours_are_empty-clause-value g c in
    slots-whole (leaf_at c.args.pages.now) c.args.from c.args.to c.div_ceil-first.result
    (c.args.to / c.per_hour-per_hour.result) c.per_hour-per_hour.result
    (cut g at.After-are_empty-2) (c.if-not-hours_are_empty.ensures.value
    ∙ ap (λ n. den_of (leaf_at c.args.pages.now) c.div_ceil-first.result
    (c.args.to / c.per_hour-per_hour.result) n == 0) (sym c.per_hour-per_hour.ensures.value))

pub returns-then-not-hours_are_empty-clause-bounded :
    goal.returns-then-not-hours_are_empty-clause-bounded
returns-then-not-hours_are_empty-clause-bounded g c = λ few.
    let at = goal.at.returns-then-not-hours_are_empty-clause-bounded g c in
    omega (
      arith,
      reads-few c.args.from c.args.to c.per_hour-per_hour.result c.args.pages.now.per_hour
          c.div_ceil-first.result (c.args.to / c.per_hour-per_hour.result)
          (cut g at.After-are_empty-2) c.per_hour-per_hour.ensures.value
          c.per_hour-per_hour.ensures.few few,
      c.are_empty-2.ensures.cost,
      c.hours_are_empty.ensures.bounded,
    )

pub returns-clause-value : goal.returns-clause-value
returns-clause-value g c =
    let at = goal.at.returns-clause-value g c in
    c.are_empty-3.ensures.value
    ∙ slots-before (leaf_at c.args.pages.now) c.args.from c.args.to c.div_ceil-first.result
    (c.args.to / c.per_hour-per_hour.result) c.per_hour-per_hour.result
    (cut g at.After-are_empty-2) c.if-not-are_empty.ensures.value
    (c.if-not-hours_are_empty.ensures.value
    ∙ ap (λ n. den_of (leaf_at c.args.pages.now) c.div_ceil-first.result
    (c.args.to / c.per_hour-per_hour.result) n == 0) (sym c.per_hour-per_hour.ensures.value))

pub returns-clause-bounded : goal.returns-clause-bounded
returns-clause-bounded g c = λ few.
    let at = goal.at.returns-clause-bounded g c in
    omega (
      arith,
      reads-few c.args.from c.args.to c.per_hour-per_hour.result c.args.pages.now.per_hour
          c.div_ceil-first.result (c.args.to / c.per_hour-per_hour.result)
          (cut g at.After-are_empty-2) c.per_hour-per_hour.ensures.value
          c.per_hour-per_hour.ensures.few few,
      c.are_empty-2.ensures.cost,
      c.hours_are_empty.ensures.bounded,
      c.are_empty-3.ensures.cost,
    )
