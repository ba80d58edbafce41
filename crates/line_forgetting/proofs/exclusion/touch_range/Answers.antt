use Rattle.std.proofs.Common.{◌≡◌, ◌⊎◌, inl, inr, ℕ, None, ◌*◌, ◌/◌, ◌<◌, ◌≤◌, ap, sym, subst, ◌∙◌}
use Rattle.std.specs.Int.{◌∣◌}
use Rattle.std.proofs.Math.Nat.{div-mul-le_self}
use Rattle.std.proofs.lemmas.Grind.{div_ceil_times}
use Rattle.burn_core.specs.Alert.{reach_of}
use Rattle.window_sums.specs.Slices.{width_of}
use Rattle.kept_sums.specs.Walks.{IsChanged}
use Rattle.kept_sums.proofs.RangeLemmas.{before_first, day_of_one_slice, last_day, last_slice}
use Rattle.kept_sums.proofs.RangeLemmas.{one_slice}
use Rattle.line_forgetting.specs.Touched.{IsCountedIn, IsCut}
use Rattle.line_forgetting.proofs.CountedLemmas.{IsRanged, changed-early, changed-one}
use Rattle.line_forgetting.proofs.CountedLemmas.{changed-parts}
use Rattle.line_forgetting.proofs.CountedLemmas.{counted-changed, cut-changed, part-changed}
use Rattle.line_forgetting.proofs.EachLemmas.{each-same, each-then}
use Rattle.line_forgetting.proofs.exclusion.touch_range.Goals as goal
use Rattle.line_forgetting.proofs.exclusion.touch_range.Goals.{After-touch_cut-run, After-width}

-- the width divides an hour
divides : (c : After-width) → c.args.width ∣ 60
divides c = subst (λ w. w ∣ 60)
    (c.width.ensures.value ∙ ap width_of c.requires.kept.method ∙ sym c.requires.width)
    c.width.ensures.divides

pub touch_cut-requires-clause-one_day : goal.touch_cut-requires-clause-one_day
touch_cut-requires-clause-one_day c = λ minute a b.
    let value = c.args.value.now in
    day_of_one_slice c.args.width value.from minute
    (divides (goal.at.touch_cut-requires-clause-one_day c).After-width)
    (one_slice c.args.width value.from value.to minute c.requires.some
    (subst (λ n. value.to / c.args.width < n) c.div_ceil-first.ensures c.if-end-first.true) a b)

pub returns-then-end-first : goal.returns-then-end-first
returns-then-end-first c =
    let m = c.args.measure.now in
    let made = c.args.book.now.exclusions in
    let value = c.args.value.now in
    let rows = c.args.book.now.rows in
    let width = c.args.width in
    let one : (minute : ℕ) → value.from ≤ minute → minute < value.to
    → minute / width ≡ value.from / width =
    λ minute a b. one_slice width value.from value.to minute c.requires.some
    (subst (λ n. value.to / width < n) c.div_ceil-first.ensures c.if-end-first.true) a b in
    each-same (IsCut m made value rows width value.from value.to) (IsChanged m made value rows)
    width (reach_of c.args.rule.now) None c.touch_cut.result c.args.line.now c.touch_cut.new.line
    (λ k. cut-changed m made value rows width value.from value.to k c.requires.width one)
    (λ k. changed-one m made value rows width k c.requires.width one) c.touch_cut.ensures

pub touch_cut-run-requires-clause-one_day : goal.touch_cut-run-requires-clause-one_day
touch_cut-run-requires-clause-one_day c = λ minute a b.
    let value = c.args.value.now in
    day_of_one_slice c.args.width value.from minute
    (divides (goal.at.touch_cut-run-requires-clause-one_day c).After-width)
    (before_first c.args.width value.from minute c.requires.some a
    (subst (λ n. minute < n * c.args.width) c.div_ceil-first.ensures b))

-- the whole slices of the range
range : (c : After-touch_cut-run) → IsRanged c.args.measure.now c.args.value.now c.args.width
    c.div_ceil-first.result (c.args.value.now.to / c.args.width)
range c = record {
  wide = c.requires.width;
  some = c.requires.some;
  own = c.requires.own;
  from = subst (λ n. c.args.value.now.from ≤ n * c.args.width) (sym c.div_ceil-first.ensures)
      (div_ceil_times c.args.value.now.from c.args.width c.requires.some).0;
  to = div-mul-le_self c.args.value.now.to c.args.width;
}

pub forget_whole-run-requires-clause-early : goal.forget_whole-run-requires-clause-early
forget_whole-run-requires-clause-early c = λ slice is.
    let m = c.args.measure.now in
    let made = c.args.book.now.exclusions in
    let value = c.args.value.now in
    let rows = c.args.book.now.rows in
    let at = (goal.at.forget_whole-run-requires-clause-early c).After-touch_cut-run in
    changed-early m made value rows c.args.width slice c.requires.width c.requires.early
    (counted-changed m made value rows c.args.sums.now c.args.width c.div_ceil-first.result
    (value.to / c.args.width) slice (range at) c.requires.kept is)

pub touch_cut-requires-2-clause-one_day : goal.touch_cut-requires-2-clause-one_day
touch_cut-requires-2-clause-one_day c = λ minute a b.
    last_day c.args.width c.args.value.now.to minute
    (divides (goal.at.touch_cut-requires-2-clause-one_day c).After-width) c.requires.some a b

pub returns : goal.returns
returns c =
    let m = c.args.measure.now in
    let made = c.args.book.now.exclusions in
    let value = c.args.value.now in
    let rows = c.args.book.now.rows in
    let width = c.args.width in
    let sums = c.args.sums.now in
    let first = c.div_ceil-first.result in
    let end = value.to / width in
    let ranged = range (goal.at.returns c).After-touch_cut-run in
    let reach = reach_of c.args.rule.now in
    let line = c.args.line.now in
    let start : (minute : ℕ) → value.from ≤ minute → minute < first * width
    → minute / width ≡ value.from / width =
    λ minute a b. before_first width value.from minute c.requires.some a
    (subst (λ n. minute < n * width) c.div_ceil-first.ensures b) in
    let last : (minute : ℕ) → end * width ≤ minute → minute < value.to
    → minute / width ≡ end * width / width =
    λ minute a b. last_slice width value.to minute c.requires.some a b in
    let cut = IsCut m made value rows width value.from (first * width) in
    let counted = IsCountedIn sums first end in
    let both : ℕ → Type 0 = λ k. cut k ⊎ counted k in
    let half = each-then cut counted both width reach None c.touch_cut-run.result
    c.forget_whole-run.result line c.touch_cut-run.new.line c.forget_whole-run.new.line
    (λ k x. inl x) (λ k x. inr x) (λ k x. x) c.touch_cut-run.ensures c.forget_whole-run.ensures in
    each-then both (IsCut m made value rows width (end * width) value.to)
    (IsChanged m made value rows) width reach None c.forget_whole-run.result c.touch_cut-2.result
    line c.forget_whole-run.new.line c.touch_cut-2.new.line
    (λ k. part-changed m made value rows sums width first end k ranged c.requires.kept start)
    (λ k. cut-changed m made value rows width (end * width) value.to k c.requires.width last)
    (λ k. changed-parts m made value rows sums width first end k ranged c.requires.kept start last)
    half c.touch_cut-2.ensures
