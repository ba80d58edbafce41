-- Shares of at most a billion, of at most four million rows, add up to few events.
use Rattle.std.proofs.Common.{◌≡◌, ◌≢◌, ◌⊎◌, ℕ, zero, suc, ◌+◌, ◌*◌, ◌≤◌, ◌==◌, nat_eq, Bool}
use Rattle.std.proofs.Common.{true, false, cond, inl, inr, refl, sym, ◌∙◌, arith, List}
use Rattle.std.proofs.Common.{[], ◌∷◌, length, sum_by, if◌then◌else◌}
use Rattle.std.specs.List.{AllByRecursion}
use Rattle.std.proofs.lemmas.Bool.Decides.{eqb_tells}
use Rattle.std.proofs.lemmas.List.Sums.{sum_by-cons}
use Rattle.exact_fraction.specs.declared.leaf.Leaf.{Leaf}
use Rattle.slice_method.specs.declared.amount.Counts.{Counts}
use Rattle.slice_method.specs.declared.method.Method.{Method}
use Rattle.slice_method.specs.declared.method.Method.TheVariants.{Occurrences, Timeslices}
use Rattle.slice_method.specs.declared.method.Method.TheVariants.{RatioTimeslices}
use Rattle.slice_method.specs.Leaves.{leaf, leaf_with_data}
use Rattle.slo_terms.specs.Sums.{AreFew, amount_at, sum_over}
use Rattle.slo_terms.proofs.RangeLemmas.{sum_over-none, sum_over-part, sum_over-same}
use Rattle.window_sums.specs.Slices.{AreSoundCounts, slice_of}
use Rattle.window_sums.specs.Shares.{AreSmall, IsSmall, Share, slice_counts}
use Rattle.window_sums.proofs.SoundFacts.{sound-same}

no_slice : (key place : ℕ) (first count : ℕ) → first + count ≤ key
    → sum_over (λ k. if key == k then place else 0) first count ≡ 0
unfolding sum_over
no_slice key place first zero le = refl
no_slice key place first (suc count) le =
    by (eqb_tells key (first + count)) (no_slice key place first count (omega arith))
  where
    apart : key ≡ first + count → first + suc count ≤ key → ⊥
    apart e le = omega arith

    by : ((nat_eq key (first + count) ≡ true) × (key ≡ first + count))
        ⊎ ((nat_eq key (first + count) ≡ false) × (key ≢ first + count)) →
        sum_over (λ k. if key == k then place else 0) first count ≡ 0 →
        sum_over (λ k. if key == k then place else 0) first count
        + (if key == first + count then place else 0) ≡ 0
    by (inl same) none = absurd (apart same.1 le)
    by (inr other) none = rw (other.0, none) refl

-- one share lies in one slice
one_slice : (key place : ℕ) (first count : ℕ)
    → sum_over (λ k. if key == k then place else 0) first count ≤ place
unfolding sum_over
one_slice key place first zero = omega arith
one_slice key place first (suc count) =
    by (eqb_tells key (first + count)) (one_slice key place first count)
  where
    by : ((nat_eq key (first + count) ≡ true) × (key ≡ first + count))
        ⊎ ((nat_eq key (first + count) ≡ false) × (key ≢ first + count)) →
        sum_over (λ k. if key == k then place else 0) first count ≤ place →
        sum_over (λ k. if key == k then place else 0) first count
        + (if key == first + count then place else 0) ≤ place
    by (inl same) few =
        rw (same.0, no_slice key place first count (omega (arith, same.1))) (omega arith)
    by (inr other) few = rw other.0 (omega (arith, few))

sum_over-plus : (f g : ℕ → ℕ) (first count : ℕ)
    → sum_over (λ k. f k + g k) first count ≡ sum_over f first count + sum_over g first count
unfolding sum_over
sum_over-plus f g first zero = refl
sum_over-plus f g first (suc count) = omega (arith, sum_over-plus f g first count)

amount-cons : (key f : Share → ℕ) (s : Share) (shares : List Share) (k : ℕ) →
    amount_at key f (s ∷ shares) k ≡ (if key s == k then f s else 0) + amount_at key f shares k
amount-cons key f s shares k = sum_by-cons (λ s. if key s == k then f s else 0) s shares

-- the slices together have no more than the shares
slices-le : (key f : Share → ℕ) (shares : List Share) (first count : ℕ)
    → sum_over (λ k. amount_at key f shares k) first count ≤ sum_by f shares
slices-le key f [] first count = rw (sum_over-none first count) (omega arith)
slices-le key f (s ∷ shares) first count =
    let plus : sum_over (λ k. amount_at key f (s ∷ shares) k) first count ≡ sum_over (λ k. if key s
    == k then f s else 0) first count + sum_over (λ k. amount_at key f shares k) first count =
    sum_over-same (λ k. amount_at key f (s ∷ shares) k) (λ k. (if key s == k then f s else 0)
    + amount_at key f shares k) (λ k. amount-cons key f s shares k) first count
    ∙ sum_over-plus (λ k. if key s == k then f s else 0) (λ k. amount_at key f shares k)
    first count in
    omega (
      arith,
      plus,
      sum_by-cons f s shares,
      one_slice (key s) (f s) first count,
      slices-le key f shares first count,
    )

billions : (shares : List Share) → sum_by (λ s. 1000000000) shares ≡ 1000000000 * length shares
billions [] = refl
billions (s ∷ shares) = omega (
  arith,
  billions shares,
  sum_by-cons (λ (s : Share). 1000000000) s shares,
)

-- a slice has at most a billion for each of its shares
totals-le : (key : Share → ℕ) (shares : List Share) (k : ℕ) → AllByRecursion IsSmall shares →
    amount_at key (λ s. s.counts.total) shares k ≤ amount_at key (λ s. 1000000000) shares k
totals-le key [] k each = omega arith
totals-le key (s ∷ shares) k each = rw (
  amount-cons key (λ s. s.counts.total) s shares k,
  amount-cons key (λ s. 1000000000) s shares k,
) (by (key s == k) (totals-le key shares k each.1))
  where
    by : (b : Bool) → amount_at key (λ s. s.counts.total) shares k
        ≤ amount_at key (λ s. 1000000000) shares k →
        cond b s.counts.total 0 + amount_at key (λ s. s.counts.total) shares k ≤ cond b 1000000000 0
        + amount_at key (λ s. 1000000000) shares k
    by true le = omega (arith, le, each.0.few)
    by false le = omega (arith, le)

parts-le : (key : Share → ℕ) (shares : List Share) (k : ℕ) → AllByRecursion IsSmall shares →
    amount_at key (λ s. s.counts.good) shares k ≤ amount_at key (λ s. s.counts.total) shares k
parts-le key [] k each = omega arith
parts-le key (s ∷ shares) k each = rw (
  amount-cons key (λ s. s.counts.good) s shares k,
  amount-cons key (λ s. s.counts.total) s shares k,
)
    (by (key s == k) (parts-le key shares k each.1))
  where
    by : (b : Bool) → amount_at key (λ s. s.counts.good) shares k
        ≤ amount_at key (λ s. s.counts.total) shares k →
        cond b s.counts.good 0 + amount_at key (λ s. s.counts.good) shares k
        ≤ cond b s.counts.total 0 + amount_at key (λ s. s.counts.total) shares k
    by true le = omega (arith, le, each.0.part)
    by false le = omega (arith, le)

-- a slice with data has a share
with_data : (key : Share → ℕ) (shares : List Share) (k : ℕ) →
    (amount_at key (λ s. s.counts.total) shares k ≡ 0)
    ⊎ (1000000000 ≤ amount_at key (λ s. 1000000000) shares k)
with_data key [] k = inl refl
with_data key (s ∷ shares) k = rw (
  amount-cons key (λ s. s.counts.total) s shares k,
  amount-cons key (λ s. 1000000000) s shares k,
) (by (key s == k) (with_data key shares k))
  where
    by : (b : Bool) → (amount_at key (λ s. s.counts.total) shares k ≡ 0)
        ⊎ (1000000000 ≤ amount_at key (λ s. 1000000000) shares k) →
        (cond b s.counts.total 0 + amount_at key (λ s. s.counts.total) shares k ≡ 0)
        ⊎ (1000000000 ≤ cond b 1000000000 0 + amount_at key (λ s. 1000000000) shares k)
    by true rest = inr (omega arith)
    by false (inl none) = inl (omega (arith, none))
    by false (inr some) = inr (omega (arith, some))

den_of : (method : Method) (c : Counts) (most : ℕ) → c.total ≤ most
    → (c.total ≡ 0) ⊎ (1000000000 ≤ most) → (leaf method c).den ≤ most
den_of method c most few (inl none) = rw none (omega arith)
den_of method c most few (inr some) = by (c.total == 0) method
  where
    by : (b : Bool) (method : Method)
        → (cond {A = Leaf} b (record { num = 0; den = 0 }) (leaf_with_data method c)).den ≤ most
    by true method = omega arith
    by false Occurrences = few
    by false (Timeslices width target) = omega (arith, some)
    by false (RatioTimeslices width) = some

product : (n : ℕ) → n ≤ 4000000 → 1000000000 * n ≤ 4000000000000000
product n le = omega (arith, le)

most : (shares : List Share) → length shares ≤ 4000000
    → sum_by (λ s. 1000000000) shares ≤ 4000000000000000
most shares few = rw (billions shares) (product (length shares) few)

-- small shares are few events in all slices together
few-events : (method : Method) (shares : List Share) → AreSmall shares
    → AreFew (λ k. (slice_counts method shares k).total)
few-events method shares small first count =
    let key : Share → ℕ = λ s. slice_of method s.minute in
    omega (
      arith,
      sum_over-part (λ k. amount_at key (λ s. s.counts.total) shares k)
          (λ k. amount_at key (λ s. 1000000000) shares k)
          (λ k. totals-le key shares k small.each) first count,
      slices-le key (λ s. 1000000000) shares first count,
      most shares small.few,
    )

-- and so are their leaves
few-leaves : (method : Method) (shares : List Share) → AreSmall shares
    → AreFew (λ k. (leaf method (slice_counts method shares k)).den)
few-leaves method shares small first count =
    let key : Share → ℕ = λ s. slice_of method s.minute in
    omega (
      arith,
      sum_over-part (λ k. (leaf method (slice_counts method shares k)).den)
          (λ k. amount_at key (λ s. 1000000000) shares k)
          (λ k. den_of method (slice_counts method shares k) (amount_at key (λ s. 1000000000) shares
          k) (totals-le key shares k small.each) (with_data key shares k)) first count,
      slices-le key (λ s. 1000000000) shares first count,
      most shares small.few,
    )

-- the good ones are a part of all
part-small : (method : Method) (shares : List Share) (k : ℕ) → AreSmall shares
    → (slice_counts method shares k).good ≤ (slice_counts method shares k).total
part-small method shares k small = parts-le (λ s. slice_of method s.minute) shares k small.each

-- Counts that are the sums of small shares are sound.
pub sound-shares : (method : Method) (counts : ℕ → Counts) (shares : List Share) → AreSmall shares
    → ((k : ℕ) → counts k ≡ slice_counts method shares k) → AreSoundCounts method counts
sound-shares method counts shares small same =
    sound-same method (slice_counts method shares) counts (λ k. sym (same k)) (record {
      parts = λ k. part-small method shares k small;
      events = few-events method shares small;
      leaves = few-leaves method shares small;
    })
