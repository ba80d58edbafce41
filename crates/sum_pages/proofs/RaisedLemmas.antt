-- How far one leaf can raise the sums.
use Rattle.std.proofs.Common.{◌≡◌, ◌≢◌, ◌⊎◌, ℕ, ◌+◌, ◌≤◌, ◌<◌, nat_eq, nat_le, true, false, inl}
use Rattle.std.proofs.Common.{inr, refl, arith}
use Rattle.std.proofs.lemmas.Cmp.{nat_eq_equiv}
use Rattle.std.proofs.lemmas.Bool.Decides.{eqb_tells, leb_tells}
use Rattle.exact_fraction.specs.declared.leaf.Leaf.{Leaf}
use Rattle.slo_terms.specs.Sums.{sum_over}
use Rattle.slo_terms.proofs.RangeLemmas.{sum_over-apart, sum_over-changed}
use Rattle.sum_pages.specs.Pages.{LeafDays, leaf_after, leaf_at}

-- terms of which one is greater by so much give a sum that is greater by no more
pub sum_over-raised : (f h : ℕ → ℕ) (place more : ℕ) → ((k : ℕ) → k ≢ place → h k ≡ f k) →
    h place ≤ f place + more → (first count : ℕ) →
    sum_over h first count ≤ sum_over f first count + more
sum_over-raised f h place more others here first count =
    by (leb_tells first place) (leb_tells (first + count) place)
  where
    by : ((nat_le first place ≡ true) × (first ≤ place))
        ⊎ ((nat_le first place ≡ false) × (place < first)) →
        ((nat_le (first + count) place ≡ true) × (first + count ≤ place))
        ⊎ ((nat_le (first + count) place ≡ false) × (place < first + count)) →
        sum_over h first count ≤ sum_over f first count + more
    by (inr before) end = omega (arith, sum_over-apart f h place others first count (inl before.1))
    by (inl start) (inl behind) =
        omega (arith, sum_over-apart f h place others first count (inr behind.1))
    by (inl start) (inr end) =
        omega (arith, sum_over-changed f h place others first count start.1 end.1, here)

-- a leaf raises the den of all by no more than its own
pub leaves-raised : (pages : LeafDays) (slot : ℕ) (value : Leaf) (first count : ℕ) →
    sum_over (λ k. (leaf_after pages slot value k).den) first count
    ≤ sum_over (λ k. (leaf_at pages k).den) first count + value.den
leaves-raised pages slot value first count =
    sum_over-raised (λ k. (leaf_at pages k).den) (λ k. (leaf_after pages slot value k).den) slot
    value.den others here first count
  where
    others : (k : ℕ) → k ≢ slot → (leaf_after pages slot value k).den ≡ (leaf_at pages k).den
    others k other = by (eqb_tells k slot)
      where
        by : ((nat_eq k slot ≡ true) × (k ≡ slot)) ⊎ ((nat_eq k slot ≡ false) × (k ≢ slot))
            → (leaf_after pages slot value k).den ≡ (leaf_at pages k).den
        by (inl same) = absurd (other same.1)
        by (inr o) = rw o.0 refl

    here : (leaf_after pages slot value slot).den ≤ (leaf_at pages slot).den + value.den
    here = rw (nat_eq_equiv.refl slot) (omega arith)
