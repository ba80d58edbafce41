use Rattle.std.proofs.Common.{◌≡◌, ◌+◌, ◌-◌, ◌*◌, ◌<◌, ◌≤◌, min, sym, subst, ◌∙◌, arith}
use Rattle.burn_core.specs.Alert.{reach_of}
use Rattle.window_sums.specs.Slices.{counts_of, slices_a_day}
use Rattle.line_forgetting.specs.Touched.{IsCountedOn, IsCountedUntil, IsThatOne, TouchesEach}
use Rattle.line_forgetting.proofs.CountedLemmas.{either, none-on, one-counted, until-all}
use Rattle.line_forgetting.proofs.CountedLemmas.{until-parts}
use Rattle.line_forgetting.proofs.EachLemmas.{each-none, each-same, each-then}
use Rattle.line_forgetting.proofs.whole.forget_on_day.Goals as goal

pub returns-then-not-has_day : goal.returns-then-not-has_day
returns-then-not-has_day c =
    each-none (IsCountedOn c.args.sums.now c.args.first c.args.end c.args.day) c.args.width
    (reach_of c.args.rule.now) c.args.waiting c.args.line.now
    (λ k. none-on c.args.sums.now c.args.first c.args.end c.args.day k
    (sym c.has_day.ensures ∙ c.if-not-has_day.true)) c.requires.run

pub loop-place-preserved : goal.loop-place-preserved
loop-place-preserved c =
    let sums = c.args.sums.now in
    let first = c.args.first in
    let end = c.args.end in
    let day = c.args.day in
    let width = c.args.width in
    let reach = reach_of c.args.rule.now in
    let place = c.loop-place.place in
    let here = c.counts_at.result in
    let n = slices_a_day sums.method in
    let same : c.slices_a_day-slices.result ≡ n = c.slices_a_day-slices.ensures.value in
    let until : place < min n (end - day * n) =
    subst (λ m. place < min m (end - day * m)) same
    (subst (λ m. place < m) c.min-until.ensures c.loop-place-test.true) in
    let less : place < n = omega (arith, until) in
    let to : place < end - day * n = omega (arith, until) in
    let from : first - day * n ≤ place =
    subst (λ m. first - day * m ≤ place) same c.loop-place.invariant.from in
    let at : here ≡ counts_of sums (day * n + place) =
    subst (λ m. here ≡ counts_of sums (day * m + place)) same c.counts_at.ensures in
    let before = subst (λ m. TouchesEach (IsCountedUntil sums first end day (day * m + place)) width
    reach c.args.waiting c.loop-place.run c.args.line.now c.loop-place.line) same
    c.loop-place.invariant.touched in
    let step = subst (λ m. TouchesEach (IsThatOne (day * m + place) here) width reach
    c.loop-place.run c.touch_counted-run.result c.loop-place.line c.touch_counted-run.new.line) same
    c.touch_counted-run.ensures in
    record {
      rule = c.touch_counted-run.ensures.only.alert.rule ∙ c.loop-place.invariant.rule;
      from = omega (arith, c.loop-place.invariant.from);
      touched = subst (λ m. TouchesEach (IsCountedUntil sums first end day (day * m + (place + 1)))
          width reach c.args.waiting c.touch_counted-run.result c.args.line.now
          c.touch_counted-run.new.line) (sym same)
          (each-then (IsCountedUntil sums first end day (day * n + place))
          (IsThatOne (day * n + place) here)
          (IsCountedUntil sums first end day (day * n + (place + 1))) width reach c.args.waiting
          c.loop-place.run c.touch_counted-run.result c.args.line.now c.loop-place.line
          c.touch_counted-run.new.line
          (λ k is. record { is = is.is; before = omega (arith, is.before) })
          (one-counted sums first end day place here from less to at)
          (until-parts sums first end day place here at) before step);
    }

pub returns : goal.returns
returns c =
    let sums = c.args.sums.now in
    let place = c.loop-place.place in
    let n = slices_a_day sums.method in
    let same : c.slices_a_day-slices.result ≡ n = c.slices_a_day-slices.ensures.value in
    let passed : min n (c.args.end - c.args.day * n) ≤ place =
    subst (λ m. min m (c.args.end - c.args.day * m) ≤ place) same
    (subst (λ m. m ≤ place) c.min-until.ensures c.loop-place-test.false) in
    each-same (IsCountedUntil sums c.args.first c.args.end c.args.day (c.args.day * n + place))
    (IsCountedOn sums c.args.first c.args.end c.args.day) c.args.width (reach_of c.args.rule.now)
    c.args.waiting c.loop-place.run c.args.line.now c.loop-place.line (λ k is. is.is)
    (until-all sums c.args.first c.args.end c.args.day place
    (subst (λ m. 0 < m) same c.slices_a_day-slices.ensures.some)
    (either n (c.args.end - c.args.day * n) place passed))
    (subst (λ m. TouchesEach (IsCountedUntil sums c.args.first c.args.end c.args.day
    (c.args.day * m + place)) c.args.width (reach_of c.args.rule.now) c.args.waiting
    c.loop-place.run c.args.line.now c.loop-place.line) same c.loop-place.invariant.touched)
