-- Which leaves decide about a condition.
use Rattle.std.proofs.Common.{◌≡◌, ◌≢◌, ◌⊎◌, ℕ, suc, ◌+◌, ◌-◌, ◌*◌, ◌/◌, ◌≤◌, ◌<◌, ◌&&◌, ◌||◌}
use Rattle.std.proofs.Common.{nat_le, true, false, inl, inr, refl, arith, ap}
use Rattle.std.proofs.lemmas.Nat.{div_below, le-div}
use Rattle.std.proofs.lemmas.Bool.Decides.{leb_tells}
use Rattle.exact_fraction.specs.declared.leaf.Leaf.{Leaf}
use Rattle.exact_fraction.specs.declared.op.Op.TheVariants.{Gt}
use Rattle.slo_terms.specs.Budget.{above_of}
use Rattle.slo_terms.specs.Sums.{slice_from, slices_until, sum_of_slices}
use Rattle.slo_terms.proofs.RangeLemmas.{sum_over-like}
use Rattle.burn_core.specs.declared.alert.AlertRule.{AlertRule}
use Rattle.burn_core.specs.declared.alert.AlertRule.TheVariants.{Single, Page, Ticket}
use Rattle.burn_core.specs.Alert.{reach_of}
use Rattle.burn_core.specs.Condition.{burns_by, condition}
use Rattle.burn_core.specs.Laws.{OneSliceDecidesNearby}

-- from the origin on the condition is what the rule says
pub condition-from : (rule : AlertRule) (target origin width : ℕ) (leaf : ℕ → Leaf) (minute : ℕ) →
    origin ≤ minute →
    condition rule target origin width leaf minute ≡ burns_by rule target width leaf minute
unfolding condition
condition-from rule target origin width leaf minute le = by (leb_tells origin minute)
  where
    by : ((nat_le origin minute ≡ true) × (origin ≤ minute))
        ⊎ ((nat_le origin minute ≡ false) × (minute < origin)) →
        (nat_le origin minute && burns_by rule target width leaf minute)
        ≡ burns_by rule target width leaf minute
    by (inl e) = rw e.0 refl
    by (inr e) = absurd (omega arith)

-- below it the condition doesn't hold
pub condition-below : (rule : AlertRule) (target origin width : ℕ) (leaf : ℕ → Leaf) (minute : ℕ) →
    minute < origin →
    condition rule target origin width leaf minute ≡ false
unfolding condition
condition-below rule target origin width leaf minute lt = by (leb_tells origin minute)
  where
    by : ((nat_le origin minute ≡ true) × (origin ≤ minute))
        ⊎ ((nat_le origin minute ≡ false) × (minute < origin)) →
        (nat_le origin minute && burns_by rule target width leaf minute) ≡ false
    by (inl e) = absurd (omega (arith, e.1))
    by (inr e) = rw e.0 refl

-- windows that don't have the slice in which two lists of leaves differ
sum_of_slices-apart : (width slice : ℕ) (f g : ℕ → Leaf) → ((k : ℕ) → k ≢ slice → f k ≡ g k) →
    (from to : ℕ) →
    (slice < slice_from width from) ⊎ (slices_until width to ≤ slice) →
    sum_of_slices width f from to ≡ sum_of_slices width g from to
sum_of_slices-apart width slice f g same from to out = λ i. record {
  num = sum_over-like (λ k. (f k).num) (λ k. (g k).num) first count
      (λ k a b. ap (λ (l : Leaf). l.num) (same k (other k a b out))) i;
  den = sum_over-like (λ k. (f k).den) (λ k. (g k).den) first count
      (λ k a b. ap (λ (l : Leaf). l.den) (same k (other k a b out))) i;
}
  where
    first : ℕ
    first = slice_from width from

    count : ℕ
    count = slices_until width to - first

    outside : (first until slice k : ℕ) → first ≤ k → k < first + (until - first)
        → (slice < first) ⊎ (until ≤ slice) → k ≢ slice
    outside first until slice k a b (inl e) same = omega arith
    outside first until slice k a b (inr e) same = omega arith

    other : (k : ℕ) → first ≤ k → k < first + count → (slice < slice_from width from)
        ⊎ (slices_until width to ≤ slice) → k ≢ slice
    other k a b out = outside first (slices_until width to) slice k a b out

-- a slice is outside of the windows of minutes before its end, and of minutes further behind it
-- than the window is long
outside : (width slice length minute : ℕ) → 0 < width →
    (minute < slice * width + width) ⊎ (slice * width + length < minute) →
    (slice < slice_from width (minute - length)) ⊎ (slices_until width minute ≤ slice)
outside width slice length minute some (inl before) =
    inr (by (div_below minute width (suc slice) some (omega arith)))
  where
    by : minute / width < suc slice → minute / width ≤ slice
    by h = omega arith
outside width slice length minute some (inr behind) =
    inl (by (le-div (suc slice) (minute - length + (width - 1)) width some (omega arith)))
  where
    by : suc slice ≤ (minute - length + (width - 1)) / width
        → slice < (minute - length + (width - 1)) / width
    by h = omega arith

closer : (width slice length reach minute : ℕ) → length ≤ reach →
    (minute < slice * width + width) ⊎ (slice * width + reach < minute) →
    (minute < slice * width + width) ⊎ (slice * width + length < minute)
closer width slice length reach minute le (inl e) = inl e
closer width slice length reach minute le (inr e) = inr (omega arith)

pub condition-apart : OneSliceDecidesNearby
unfolding condition
condition-apart rule target origin width slice f g some same minute out =
    ap (λ b. nat_le origin minute && b) (by rule out)
  where
    apart : (length reach : ℕ) → length ≤ reach →
        (minute < slice * width + width) ⊎ (slice * width + reach < minute) →
        sum_of_slices width f (minute - length) minute
        ≡ sum_of_slices width g (minute - length) minute
    apart length reach le out =
        sum_of_slices-apart width slice f g same (minute - length) minute
        (outside width slice length minute some (closer width slice length reach minute le out))

    by : (rule : AlertRule) → (minute < slice * width + width)
        ⊎ (slice * width + reach_of rule < minute)
        → burns_by rule target width f minute ≡ burns_by rule target width g minute
    by (Single op threshold lookback after) out =
        ap (λ s. above_of s target op threshold) (apart lookback lookback (omega arith) out)
    by Page out =
        λ i. (above_of (apart 60 360 (omega arith) out i) target Gt 14400000000
        && above_of (apart 5 360 (omega arith) out i) target Gt 14400000000)
        || ((above_of (apart 360 360 (omega arith) out i) target Gt 6000000000
        && above_of (apart 30 360 (omega arith) out i) target Gt 6000000000) || false)
    by Ticket out =
        λ i. (above_of (apart 4320 4320 (omega arith) out i) target Gt 1000000000
        && above_of (apart 360 4320 (omega arith) out i) target Gt 1000000000) || false
