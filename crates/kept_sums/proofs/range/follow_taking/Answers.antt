use Rattle.std.proofs.Common.{◌≡◌, ◌*◌, ◌/◌, ◌<◌, ◌≤◌, ap, subst, sym, ◌∙◌}
use Rattle.std.proofs.Math.Nat.{div-mul-le_self}
use Rattle.std.proofs.lemmas.Grind.{div_ceil_times}
use Rattle.window_sums.specs.Slices.{width_of}
use Rattle.kept_sums.proofs.FollowLemmas.{same_days}
use Rattle.kept_sums.proofs.RangeLemmas.{before_first, counted_without, day_of_one_slice, last_day}
use Rattle.kept_sums.proofs.RangeLemmas.{one_slice}
use Rattle.kept_sums.proofs.range.follow_taking.Goals as goal

pub follow_between-requires-clause-one_day : goal.follow_between-requires-clause-one_day
follow_between-requires-clause-one_day c = λ minute a b.
    let w = c.width-width.result in
    let from = c.args.value.now.from in
    let to = c.args.value.now.to in
    day_of_one_slice w from minute c.width-width.ensures.divides
    (one_slice w from to minute c.width-width.ensures.some
    (subst (λ n. to / w < n) c.div_ceil-first.ensures c.if-end-first.true) a b)

pub follow_between-requires-2-clause-one_day : goal.follow_between-requires-2-clause-one_day
follow_between-requires-2-clause-one_day c = λ minute a b.
    let w = c.width-width.result in
    let from = c.args.value.now.from in
    day_of_one_slice w from minute c.width-width.ensures.divides
    (before_first w from minute c.width-width.ensures.some a
    (subst (λ n. minute < n * w) c.div_ceil-first.ensures b))

pub follow_between-requires-3-clause-one_day : goal.follow_between-requires-3-clause-one_day
follow_between-requires-3-clause-one_day c = λ minute a b.
    last_day c.width-width.result c.args.value.now.to minute c.width-width.ensures.divides
    c.width-width.ensures.some a b

pub follow_between-requires-3-clause-counted : goal.follow_between-requires-3-clause-counted
follow_between-requires-3-clause-counted c =
    let w = c.width-width.result in
    let value = c.args.value.now in
    let old = c.follow_between-2.new.sums in
    let wide : width_of old.method ≡ w =
    ap width_of c.follow_between-2.ensures.method ∙ sym c.width-width.ensures.value in
    let begun : value.from ≤ c.div_ceil-first.result * w =
    subst (λ n. value.from ≤ n * w) (sym c.div_ceil-first.ensures)
    (div_ceil_times value.from w c.width-width.ensures.some).0 in
    counted_without c.args.measure.now c.args.book.now.exclusions value c.args.book.now.rows old
    c.clear.new.self w c.div_ceil-first.result (value.to / w) c.width-width.ensures.some wide
    c.requires.own begun c.if-end-first.false (div-mul-le_self value.to w) c.clear.ensures.method
    c.clear.ensures.counts c.follow_between-2.ensures.counted

pub follow_between-requires-3-clause-days : goal.follow_between-requires-3-clause-days
follow_between-requires-3-clause-days c =
    same_days c.args.measure.now c.args.book.now.rows c.args.sums.now c.clear.new.self
    (λ day. c.clear.ensures.days day ∙ c.follow_between-2.ensures.days day) c.requires.days
