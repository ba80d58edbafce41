-- A condition looks at the slices near its minute alone.
use Rattle.std.proofs.Common.{◌≡◌, ◌⊎◌, ℕ, suc, ◌+◌, ◌-◌, ◌*◌, ◌/◌, ◌≤◌, ◌<◌, ◌&&◌, ◌||◌, nat_le}
use Rattle.std.proofs.Common.{nat_lt, Bool, true, false, Some, inl, inr, refl, arith, ap, sym, ◌∙◌}
use Rattle.std.proofs.Math.Nat.{div-add-mod', div-mul-le_self, mul-le-mul_right}
use Rattle.std.proofs.lemmas.Nat.{mod_below}
use Rattle.std.proofs.lemmas.Bool.Decides.{leb_tells}
use Rattle.exact_fraction.specs.declared.Leaf.{Leaf}
use Rattle.exact_fraction.specs.declared.Op.TheVariants.{Gt}
use Rattle.slo_terms.specs.Budget.{above_of}
use Rattle.slo_terms.specs.Sums.{slice_from, slices_until, sum_of_slices}
use Rattle.slo_terms.proofs.RangeLemmas.{sum_over-like}
use Rattle.burn_core.specs.declared.AlertRule.{AlertRule}
use Rattle.burn_core.specs.declared.AlertRule.TheVariants.{Single, Page, Ticket}
use Rattle.burn_core.specs.Alert.{reach_of}
use Rattle.burn_core.specs.Condition.{burns_by, condition}
use Rattle.window_sums.specs.Slices.{CountedDays, leaf_at, width_of}
use Rattle.alert_line.specs.Line.{Agrees, Line, condition_on, knowledge}
use Rattle.line_forgetting.specs.Touched.{IsClear, LinesAgreeAgain, is_near}

-- two lists of leaves are the same over the slices near a minute
abbrev pub SameNear : ℕ → ℕ → (ℕ → Leaf) → (ℕ → Leaf) → ℕ → Type 0
SameNear width reach f g minute = (k : ℕ) → k * width + width ≤ minute
    → minute ≤ k * width + reach → f k ≡ g k

-- a slice that ends at a minute or before it
pub ends : (width k minute : ℕ) → suc k ≤ minute / width → k * width + width ≤ minute
ends width k minute le = omega (
  arith,
  mul-le-mul_right {m = suc k} {n = minute / width} width le,
  div-mul-le_self minute width,
  next k width,
)
  where
    next : (k width : ℕ) → suc k * width ≡ k * width + width
    next k width = omega arith

-- a slice that begins at a minute or after it
starts : (width k a : ℕ) → 0 < width → (a + (width - 1)) / width ≤ k → a ≤ k * width
starts width k a some le =
    omega (
      arith,
      some,
      mul-le-mul_right {m = (a + (width - 1)) / width} {n = k} width le,
      div-add-mod' (a + (width - 1)) width,
      mod_below (a + (width - 1)) width some,
    )

-- windows of the same leaves have the same sum
window-same : (width length reach : ℕ) (f g : ℕ → Leaf) (minute : ℕ) → 0 < width → length ≤ reach →
    SameNear width reach f g minute →
    sum_of_slices width f (minute - length) minute ≡ sum_of_slices width g (minute - length) minute
window-same width length reach f g minute some le same = λ i. record {
  num = sum_over-like (λ k. (f k).num) (λ k. (g k).num) first count
      (λ k a b. ap (λ (l : Leaf). l.num) (here k a b)) i;
  den = sum_over-like (λ k. (f k).den) (λ k. (g k).den) first count
      (λ k a b. ap (λ (l : Leaf). l.den) (here k a b)) i;
}
  where
    first : ℕ
    first = slice_from width (minute - length)

    count : ℕ
    count = slices_until width minute - first

    inside : (first until k : ℕ) → first ≤ k → k < first + (until - first) → suc k ≤ until
    inside first until k a b = omega (arith, a, b)

    back : (k : ℕ) → minute - length ≤ k * width → minute ≤ k * width + reach
    back k h = omega (arith, h, le)

    here : (k : ℕ) → first ≤ k → k < first + count → f k ≡ g k
    here k a b = same k (ends width k minute (inside first (slices_until width minute) k a b))
        (back k (starts width k (minute - length) some a))

-- the condition is the same where the leaves near the minute are
pub condition-same : (rule : AlertRule) (target origin width : ℕ) (f g : ℕ → Leaf) (minute : ℕ) →
    0 < width → SameNear width (reach_of rule) f g minute →
    condition rule target origin width f minute ≡ condition rule target origin width g minute
unfolding condition
condition-same rule target origin width f g minute some same =
    ap (λ b. nat_le origin minute && b) (by rule same)
  where
    one : (length reach : ℕ) → length ≤ reach → SameNear width reach f g minute → sum_of_slices
        width f (minute - length) minute ≡ sum_of_slices width g (minute - length) minute
    one length reach le same = window-same width length reach f g minute some le same

    by : (rule : AlertRule) → SameNear width (reach_of rule) f g minute
        → burns_by rule target width f minute ≡ burns_by rule target width g minute
    by (Single op threshold lookback after) same =
        ap (λ s. above_of s target op threshold) (one lookback lookback (omega arith) same)
    by Page same =
        λ i. (above_of (one 60 360 (omega arith) same i) target Gt 14400000000
        && above_of (one 5 360 (omega arith) same i) target Gt 14400000000)
        || ((above_of (one 360 360 (omega arith) same i) target Gt 6000000000
        && above_of (one 30 360 (omega arith) same i) target Gt 6000000000) || false)
    by Ticket same =
        λ i. (above_of (one 4320 4320 (omega arith) same i) target Gt 1000000000
        && above_of (one 360 4320 (omega arith) same i) target Gt 1000000000) || false

-- a minute that may look at a slice is near it
pub near-is : (width reach slice minute : ℕ) → slice * width + width ≤ minute
    → minute ≤ slice * width + reach → is_near width reach slice minute ≡ true
near-is width reach slice minute a b = both (leb_tells (slice * width + width) minute)
    (leb_tells (suc minute) (slice * width + reach + 1))
  where
    both : ((nat_le (slice * width + width) minute ≡ true) × (slice * width + width ≤ minute))
        ⊎ ((nat_le (slice * width + width) minute ≡ false) × (minute < slice * width + width)) →
        ((nat_lt minute (slice * width + reach + 1) ≡ true)
        × (suc minute ≤ slice * width + reach + 1))
        ⊎ ((nat_lt minute (slice * width + reach + 1) ≡ false)
        × (slice * width + reach + 1 < suc minute)) →
        is_near width reach slice minute ≡ true
    both (inl e) (inl d) = rw (e.0, d.0) refl
    both (inr e) d = absurd (omega (arith, a, e.1))
    both (inl e) (inr d) = absurd (omega (arith, b, d.1))

-- a line whose known minutes look at the same leaves agrees as before
pub agree-again : LinesAgreeAgain
agree-again line old new some widths same agrees =
    record { each = λ minute holds e. agrees.each minute holds e ∙ one minute holds e }
  where
    one : (minute : ℕ) (holds : Bool) → knowledge line minute ≡ Some holds
        → condition_on line old minute ≡ condition_on line new minute
    one minute holds e =
        condition-same line.rule line.target line.origin (width_of old.method) (leaf_at old)
        (leaf_at new) minute some
        (λ k a b. same minute holds k e
        (near-is (width_of old.method) (reach_of line.rule) k minute a b))
        ∙ (λ i. condition line.rule line.target line.origin (sym widths i) (leaf_at new) minute)

-- so does a line that is clear of the slices that were touched
pub clear-agrees : (line : Line) (old new : CountedDays) (touched : ℕ → Type 0) →
    0 < width_of old.method → width_of new.method ≡ width_of old.method →
    ((slice : ℕ) → (touched slice → ⊥) → leaf_at old slice ≡ leaf_at new slice) →
    ((slice : ℕ) → touched slice → IsClear line (width_of old.method) slice) →
    Agrees line old → Agrees line new
clear-agrees line old new touched some widths same clear agrees = agree-again line old new some
    widths (λ minute holds k e near. same k (apart minute holds k e near)) agrees
  where
    apart : (minute : ℕ) (holds : Bool) (k : ℕ) → knowledge line minute ≡ Some holds
        → is_near (width_of old.method) (reach_of line.rule) k minute ≡ true → touched k → ⊥
    apart minute holds k e near is = let no : true ≡ false = sym near ∙ clear k is minute holds e in
        cc no
