use Rattle.std.proofs.Common.{◌≡◌, ◌-◌, ◌*◌, ◌/◌, ◌<◌, ◌≤◌, ◌==◌, ap, subst, sym, true, ◌∙◌, arith}
use Rattle.std.specs.Int.{div_ceil}
use Rattle.sum_pages.specs.Pages.{leaf_at}
use Rattle.window_sums.proofs.EmptinessFacts.{days-few, days-none, den_of}
use Rattle.window_sums.proofs.emptiness.is_empty.Goals as goal

pub returns-then-are_empty-clause-value : goal.returns-then-are_empty-clause-value
returns-then-are_empty-clause-value g c =
    let leaf = leaf_at c.args.pages.now in
    let day = 24 * c.per_hour-slots.result in
    let some : 0 < day = omega (arith, c.per_hour-slots.ensures.some) in
    let none : true ≡ (den_of leaf (c.args.from / day) (div_ceil c.args.to day) day == 0) =
    c.if-are_empty.ensures.value
    ∙ ap (λ n. den_of leaf (c.args.from / day) c.div_ceil.result (24 * n) == 0)
    (sym c.per_hour-slots.ensures.value)
    ∙ ap (λ n. den_of leaf (c.args.from / day) n day == 0) c.div_ceil.ensures in
    c.if-are_empty.true ∙ days-none leaf c.args.from c.args.to day some none

pub returns-then-are_empty-clause-bounded : goal.returns-then-are_empty-clause-bounded
returns-then-are_empty-clause-bounded g c = λ few.
    let day = 24 * c.per_hour-slots.result in
    let some : 0 < day = omega (arith, c.per_hour-slots.ensures.some) in
    let days : c.div_ceil.result - c.args.from / day ≤ 32 =
    subst (λ n. n - c.args.from / day ≤ 32) (sym c.div_ceil.ensures)
    (days-few c.args.from c.args.to day some
    (subst (λ n. c.args.to - c.args.from ≤ 30 * (24 * n)) (sym c.per_hour-slots.ensures.value)
    few)) in
    omega (arith, days, c.are_empty.ensures.cost)

pub returns-else-are_empty-clause-bounded : goal.returns-else-are_empty-clause-bounded
returns-else-are_empty-clause-bounded g c = λ few.
    let day = 24 * c.per_hour-slots.result in
    let some : 0 < day = omega (arith, c.per_hour-slots.ensures.some) in
    let days : c.div_ceil.result - c.args.from / day ≤ 32 =
    subst (λ n. n - c.args.from / day ≤ 32) (sym c.div_ceil.ensures)
    (days-few c.args.from c.args.to day some
    (subst (λ n. c.args.to - c.args.from ≤ 30 * (24 * n)) (sym c.per_hour-slots.ensures.value)
    few)) in
    omega (
      arith,
      days,
      c.are_empty.ensures.cost,
      c.slots_are_empty.ensures.bounded (omega (arith, few)),
    )
