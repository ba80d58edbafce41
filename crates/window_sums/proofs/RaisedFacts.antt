-- How far a change can raise the sums.
use Rattle.std.proofs.Common.{◌≡◌, ◌≢◌, ◌⊎◌, ℕ, ◌+◌, ◌-◌, ◌≤◌, nat_eq, Bool, true, false}
use Rattle.std.proofs.Common.{cond, inl, inr, refl, sym, ap, subst, arith, List, []}
use Rattle.std.proofs.lemmas.Bool.Decides.{eqb_tells}
use Rattle.exact_fraction.specs.declared.leaf.Leaf.{Leaf}
use Rattle.slice_method.specs.declared.amount.Counts.{Counts}
use Rattle.slice_method.specs.declared.method.Method.{Method}
use Rattle.slice_method.specs.declared.method.Method.TheVariants.{Occurrences, Timeslices}
use Rattle.slice_method.specs.declared.method.Method.TheVariants.{RatioTimeslices}
use Rattle.slice_method.specs.Leaves.{leaf, leaf_with_data}
use Rattle.slo_terms.proofs.RangeLemmas.{sum_over-none, sum_over-same}
use Rattle.sum_pages.proofs.RaisedLemmas.{sum_over-raised}
use Rattle.window_sums.specs.Slices.{CountedDays, HasAtMost, counts_after, counts_of, new_counts}
use Rattle.window_sums.specs.Slices.{slice_of}
use Rattle.window_sums.proofs.SoundFacts.{after-here}

-- the den of a leaf is raised by no more than the events are, and a billion
leaf-raised : (method : Method) (old new : Counts) (more : ℕ) → new.total ≤ old.total + more
    → (leaf method new).den ≤ (leaf method old).den + (more + 1000000000)
leaf-raised Occurrences old new more le = by (eqb_tells new.total 0) (eqb_tells old.total 0)
  where
    by : ((nat_eq new.total 0 ≡ true) × (new.total ≡ 0))
        ⊎ ((nat_eq new.total 0 ≡ false) × (new.total ≢ 0)) →
        ((nat_eq old.total 0 ≡ true) × (old.total ≡ 0))
        ⊎ ((nat_eq old.total 0 ≡ false) × (old.total ≢ 0)) →
        (leaf Occurrences new).den ≤ (leaf Occurrences old).den + (more + 1000000000)
    by (inl n) o = rw n.0 (omega arith)
    by (inr n) (inl o) = rw (n.0, o.0) (omega (arith, o.1))
    by (inr n) (inr o) = rw (n.0, o.0) (omega arith)
leaf-raised (Timeslices width target) old new more le =
    by (nat_eq new.total 0) (leaf_with_data (Timeslices width target) new) (omega arith)
  where
    by : (b : Bool) (l : Leaf)
        → l.den ≤ 1000000000 → (cond {A = Leaf} b (record { num = 0; den = 0 }) l).den
        ≤ (leaf (Timeslices width target) old).den + (more + 1000000000)
    by true l le = omega arith
    by false l le = omega (arith, le)
leaf-raised (RatioTimeslices width) old new more le =
    by (nat_eq new.total 0) (leaf_with_data (RatioTimeslices width) new) (omega arith)
  where
    by : (b : Bool) (l : Leaf)
        → l.den ≤ 1000000000 → (cond {A = Leaf} b (record { num = 0; den = 0 }) l).den
        ≤ (leaf (RatioTimeslices width) old).den + (more + 1000000000)
    by true l le = omega arith
    by false l le = omega (arith, le)

after-other : (sums : CountedDays) (minute : ℕ) (before after : Counts) (k : ℕ) →
    k ≢ slice_of sums.method minute →
    counts_after sums minute before after k ≡ counts_of sums k
after-other sums minute before after k other = by (eqb_tells k (slice_of sums.method minute))
  where
    by : ((nat_eq k (slice_of sums.method minute) ≡ true) × (k ≡ slice_of sums.method minute))
        ⊎ ((nat_eq k (slice_of sums.method minute) ≡ false) × (k ≢ slice_of sums.method minute)) →
        counts_after sums minute before after k ≡ counts_of sums k
    by (inl same) = absurd (other same.1)
    by (inr o) = rw o.0 refl

raised-here : (sums : CountedDays) (minute : ℕ) (before after : Counts) →
    (counts_after sums minute before after (slice_of sums.method minute)).total
    ≤ (counts_of sums (slice_of sums.method minute)).total + after.total
raised-here sums minute before after =
    rw (after-here sums minute before after)
    (by (counts_of sums (slice_of sums.method minute)).total before.total after.total)
  where
    by : (a b c : ℕ) → a - b + c ≤ a + c
    by a b c = omega arith

-- a change raises the events by no more than it adds, and the den of the leaves by no more than
-- that and a billion
pub HasAtMost-after : (sums : CountedDays) (minute : ℕ) (before after : Counts) (most : ℕ) →
    HasAtMost sums.method (counts_of sums) most →
    (new_counts (counts_of sums (slice_of sums.method minute)) before after).good
    ≤ (new_counts (counts_of sums (slice_of sums.method minute)) before after).total →
    HasAtMost sums.method (counts_after sums minute before after)
    (most + (after.total + 1000000000))
HasAtMost-after sums minute before after most few part = record {
  parts = λ k. by k (eqb_tells k (slice_of sums.method minute));
  events = λ first count. omega (
    arith,
    few.events first count,
    sum_over-raised (λ k. (counts_of sums k).total) (λ k.
        (counts_after sums minute before after k).total) (slice_of sums.method minute) after.total
        (λ k other. ap (λ (c : Counts). c.total) (after-other sums minute before after k other))
        (raised-here sums minute before after) first count,
  );
  leaves = λ first count. omega (
    arith,
    few.leaves first count,
    sum_over-raised (λ k. (leaf sums.method (counts_of sums k)).den)
        (λ k. (leaf sums.method (counts_after sums minute before after k)).den)
        (slice_of sums.method minute) (after.total + 1000000000)
        (λ k other. ap (λ (c : Counts). (leaf sums.method c).den)
        (after-other sums minute before after k other))
        (leaf-raised sums.method (counts_of sums (slice_of sums.method minute))
        (counts_after sums minute before after (slice_of sums.method minute)) after.total
        (raised-here sums minute before after)) first count,
  );
}
  where
    by : (k : ℕ) → ((nat_eq k (slice_of sums.method minute) ≡ true)
        × (k ≡ slice_of sums.method minute))
        ⊎ ((nat_eq k (slice_of sums.method minute) ≡ false) × (k ≢ slice_of sums.method minute)) →
        (counts_after sums minute before after k).good
        ≤ (counts_after sums minute before after k).total
    by k (inl same) =
        subst (λ j. (counts_after sums minute before after j).good
        ≤ (counts_after sums minute before after j).total) (sym same.1)
        (subst (λ (c : Counts). c.good ≤ c.total) (sym (after-here sums minute before after)) part)
    by k (inr other) = subst (λ (c : Counts). c.good ≤ c.total)
        (sym (after-other sums minute before after k other.1)) (few.parts k)

pub HasAtMost-same : (method : Method) (f g : ℕ → Counts) (most : ℕ) → ((k : ℕ) → f k ≡ g k)
    → HasAtMost method f most → HasAtMost method g most
HasAtMost-same method f g most same few = record {
  parts = λ k. subst (λ (c : Counts). c.good ≤ c.total) (same k) (few.parts k);
  events = λ first count. subst (λ n. n ≤ most) (sum_over-same (λ k. (f k).total) (λ k. (g k).total)
      (λ k. ap (λ (c : Counts). c.total) (same k)) first count) (few.events first count);
  leaves = λ first count. subst (λ n. n ≤ most) (sum_over-same (λ k. (leaf method (f k)).den)
      (λ k. (leaf method (g k)).den) (λ k. ap (λ (c : Counts). (leaf method c).den) (same k)) first
      count) (few.leaves first count);
}

-- the same counts by the same method
pub HasAtMost-kept : (old new : CountedDays) (most : ℕ) → new.method ≡ old.method →
    ((k : ℕ) → counts_of new k ≡ counts_of old k) →
    HasAtMost old.method (counts_of old) most → HasAtMost new.method (counts_of new) most
HasAtMost-kept old new most methods same few =
    subst (λ m. HasAtMost m (counts_of new) most) (sym methods)
    (HasAtMost-same old.method (counts_of old) (counts_of new) most (λ k. sym (same k)) few)

-- no day has no events
pub HasAtMost-none : (sums : CountedDays) → sums.days ≡ []
    → HasAtMost sums.method (counts_of sums) 0
HasAtMost-none sums none =
    subst (λ (days : List (ℕ × List Counts)). HasAtMost sums.method
    (counts_of (record { method = sums.method; days = days })) 0) (sym none) (record {
      parts = λ k. omega arith;
      events = λ first count. rw (sum_over-none first count) (omega arith);
      leaves = λ first count. rw (sum_over-none first count) (omega arith);
    })
