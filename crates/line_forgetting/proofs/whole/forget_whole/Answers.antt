use Rattle.std.proofs.Common.{◌≡◌, ◌+◌, ◌/◌, ◌<◌, ◌≤◌, ℕ, sym, subst, ◌∙◌, arith}
use Rattle.std.specs.Int.{div_ceil}
use Rattle.burn_core.specs.Alert.{reach_of}
use Rattle.window_sums.specs.Slices.{slices_a_day}
use Rattle.line_forgetting.specs.Touched.{IsCountedBefore, IsCountedIn, IsCountedOn}
use Rattle.line_forgetting.proofs.CountedLemmas.{all-before, day-parts, none-before}
use Rattle.line_forgetting.proofs.EachLemmas.{each-none, each-same, each-then}
use Rattle.line_forgetting.proofs.whole.forget_whole.Goals as goal

pub loop-day-init : goal.loop-day-init
loop-day-init c =
    let sums = c.args.sums.now in
    let first = c.args.first in
    let end = c.args.end in
    let same : c.slices_a_day-slices.result ≡ slices_a_day sums.method =
    c.slices_a_day-slices.ensures.value in
    record {
      rule = c.requires.rule;
      touched = each-none (IsCountedBefore sums first end (first / c.slices_a_day-slices.result))
          c.args.width (reach_of c.args.rule.now) c.args.waiting c.args.line.now
          (subst (λ n. (k : ℕ) → IsCountedBefore sums first end (first / n) k → ⊥) (sym same)
          (λ k. none-before sums first end k
          (subst (λ n. 0 < n) same c.slices_a_day-slices.ensures.some)))
          c.requires.run;
    }

pub loop-day-preserved : goal.loop-day-preserved
loop-day-preserved c =
    let sums = c.args.sums.now in
    let first = c.args.first in
    let end = c.args.end in
    let day = c.loop-day.day in
    record {
      rule = c.forget_on_day-run.ensures.only.alert.rule ∙ c.loop-day.invariant.rule;
      touched = each-then (IsCountedBefore sums first end day) (IsCountedOn sums first end day)
          (IsCountedBefore sums first end (day + 1)) c.args.width (reach_of c.args.rule.now)
          c.args.waiting c.loop-day.run c.forget_on_day-run.result c.args.line.now c.loop-day.line
          c.forget_on_day-run.new.line
          (λ k is. record { is = is.is; before = omega (arith, is.before) })
          (λ k is. record { is = is.is; before = omega (arith, is.on) })
          (day-parts sums first end day) c.loop-day.invariant.touched c.forget_on_day-run.ensures;
    }

pub returns : goal.returns
returns c =
    let sums = c.args.sums.now in
    let first = c.args.first in
    let end = c.args.end in
    let day = c.loop-day.day in
    let same : c.slices_a_day-slices.result ≡ slices_a_day sums.method =
    c.slices_a_day-slices.ensures.value in
    let passed : div_ceil end (slices_a_day sums.method) ≤ day =
    subst (λ n. div_ceil end n ≤ day) same
    (subst (λ n. n ≤ day) c.div_ceil-day-end.ensures c.loop-day-test.false) in
    each-same (IsCountedBefore sums first end day) (IsCountedIn sums first end) c.args.width
    (reach_of c.args.rule.now) c.args.waiting c.loop-day.run c.args.line.now c.loop-day.line
    (λ k is. is.is)
    (λ k. all-before sums first end day k
    (subst (λ n. 0 < n) same c.slices_a_day-slices.ensures.some) passed)
    c.loop-day.invariant.touched
