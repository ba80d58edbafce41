use Rattle.std.proofs.Common.{◌≡◌, ◌+◌, ◌-◌, ◌≤◌, ◌<◌, ℕ, ap, sym, subst, ◌∙◌, arith}
use Rattle.exact_fraction.specs.declared.leaf.Leaf.{Leaf}
use Rattle.slo_limits.specs.declared.TheConstants.{MAX_SUM}
use Rattle.slo_terms.specs.Sums.{leaves_over, slice_from, slices_until, sum_of_slices}
use Rattle.window_sums.specs.Slices.{leaf_at, width_of}
use Rattle.slo_terms.proofs.RangeLemmas.{leaves-part}
use Rattle.alert_line.proofs.WindowLemmas.{div-next, first-next, stays_or_rises}
use Rattle.alert_line.proofs.window.Window.next.Goals as goal

pub grown-sum-requires : goal.grown-sum-requires
grown-sum-requires g c =
    let minute = c.args.advance.now.minute in
    let is = c.requires.advance in
    let width = width_of c.args.sums.now.method in
    let was : c.args.self.now.end ≡ slices_until width minute = c.requires.value.end in
    let end : c.args.advance.now.end ≡ slices_until width (minute + 1) = is.end in
    let some : 0 < width = subst (λ (w : ℕ). 0 < w) is.wide is.some in
    let steps = stays_or_rises _ _ (div-next width minute some) in
    record {
      value = c.requires.value.sum ∙ (λ i. leaves_over (leaf_at c.args.sums.now)
          (sym c.requires.value.first i) (sym was i - sym c.requires.value.first i));
      from = omega (arith, was, end, steps.0);
      one = omega (arith, was, end, steps.1);
      leaf = λ later. is.gained (omega (arith, was, later))
          ∙ ap (leaf_at c.args.sums.now) (sym was);
    }

pub shrunk-sum-requires : goal.shrunk-sum-requires
shrunk-sum-requires g c =
    let minute = c.args.advance.now.minute in
    let length = c.args.length in
    let is = c.requires.advance in
    let width = width_of c.args.sums.now.method in
    let first : c.slice_from-first.result ≡ slice_from width (minute + 1 - length) =
    c.slice_from-first.ensures ∙ (λ i. slice_from (is.wide i) (c.saturating_sub-from.ensures i)) in
    let was : c.args.self.now.first ≡ slice_from width (minute - length) =
    c.requires.value.first in
    let some : 0 < width = subst (λ (w : ℕ). 0 < w) is.wide is.some in
    let steps = stays_or_rises _ _ (first-next width minute length some) in
    record {
      value = c.grown-sum.ensures;
      from = omega (arith, first, was, steps.0);
      one = omega (arith, first, was, steps.1);
    }

pub returns-clause-value : goal.returns-clause-value
returns-clause-value g c =
    let sums = c.args.sums.now in
    let minute = c.args.advance.now.minute in
    let is = c.requires.advance in
    let first : c.slice_from-first.result
    ≡ slice_from (width_of sums.method) (minute + 1 - c.args.length) =
    c.slice_from-first.ensures ∙ (λ i. slice_from (is.wide i) (c.saturating_sub-from.ensures i)) in
    let sum : c.shrunk-sum.result ≡ sum_of_slices (width_of sums.method) (leaf_at sums)
    (minute + 1 - c.args.length) (minute + 1) =
    c.shrunk-sum.ensures.value ∙ (λ i. leaves_over (leaf_at sums) (first i) (is.end i - first i)) in
    record {
      first = first;
      end = is.end;
      sum = sum;
      part = subst (λ (l : Leaf). l.num ≤ l.den) (sym c.shrunk-sum.ensures.value)
          (leaves-part (leaf_at sums) c.sound.ensures _ _);
      few = subst (λ (l : Leaf). l.den ≤ MAX_SUM) (sym c.shrunk-sum.ensures.value)
          (c.sound.ensures.few _ _);
    }
