-- What is kept of the counts of each slice.
use Rattle.std.proofs.Common.{◌≡◌, ◌≢◌, ◌⊎◌, ℕ, ◌*◌, ◌≤◌, nat_eq, Bool, true, false, cond, inl, inr}
use Rattle.std.proofs.Common.{sym, ap, subst, refl, arith}
use Rattle.std.proofs.Math.Nat.{div-le_of_le-mul}
use Rattle.std.proofs.lemmas.Cmp.{nat_eq_equiv}
use Rattle.std.proofs.lemmas.Bool.Decides.{eqb_tells}
use Rattle.slice_method.specs.declared.amount.Counts.{Counts}
use Rattle.slice_method.specs.declared.method.Method.{Method}
use Rattle.slice_method.specs.declared.method.Method.TheVariants.{Occurrences, Timeslices}
use Rattle.slice_method.specs.declared.method.Method.TheVariants.{RatioTimeslices}
use Rattle.slice_method.specs.Leaves.{is_at_least, leaf, leaf_with_data}
use Rattle.exact_fraction.specs.declared.leaf.Leaf.{Leaf}
use Rattle.slo_terms.specs.Sums.{AreFew, AreSound, most_events}
use Rattle.slo_terms.proofs.RangeLemmas.{sum_over-one, sum_over-same}
use Rattle.window_sums.specs.Slices.{AreSoundCounts, CountedDays, counts_after, counts_of}
use Rattle.window_sums.specs.Slices.{new_counts, leaf_at, slice_of}

-- one place has no more than all of them
pub few-one : (f : ℕ → ℕ) → AreFew f → (k : ℕ) → f k ≤ most_events
few-one f few k = subst (λ n. n ≤ most_events) (sum_over-one f k) (few k 1)

few-same : (f g : ℕ → ℕ) → ((k : ℕ) → f k ≡ g k) → AreFew f → AreFew g
few-same f g same few first count =
    subst (λ n. n ≤ most_events) (sum_over-same f g same first count) (few first count)

-- the same counts are as sound
pub sound-same : (method : Method) (f g : ℕ → Counts) → ((k : ℕ) → f k ≡ g k)
    → AreSoundCounts method f → AreSoundCounts method g
sound-same method f g same sound = record {
  parts = λ k. subst (λ (c : Counts). c.good ≤ c.total) (same k) (sound.parts k);
  events = few-same (λ k. (f k).total) (λ k. (g k).total)
      (λ k. ap (λ (c : Counts). c.total) (same k)) sound.events;
  leaves = few-same (λ k. (leaf method (f k)).den) (λ k. (leaf method (g k)).den)
      (λ k. ap (λ (c : Counts). (leaf method c).den) (same k)) sound.leaves;
}

-- the counts of the slice that was changed
pub after-here : (sums : CountedDays) (minute : ℕ) (before after : Counts) →
    counts_after sums minute before after (slice_of sums.method minute)
    ≡ new_counts (counts_of sums (slice_of sums.method minute)) before after
after-here sums minute before after = rw (nat_eq_equiv.refl (slice_of sums.method minute)) refl

-- a change leaves sound counts where it leaves a sound slice and few events
pub sound-after : (sums : CountedDays) (minute : ℕ) (before after : Counts) →
    AreSoundCounts sums.method (counts_of sums) →
    (counts_after sums minute before after (slice_of sums.method minute)).good
    ≤ (counts_after sums minute before after (slice_of sums.method minute)).total →
    AreFew (λ k. (counts_after sums minute before after k).total) →
    AreFew (λ k. (leaf sums.method (counts_after sums minute before after k)).den) →
    AreSoundCounts sums.method (counts_after sums minute before after)
sound-after sums minute before after sound here events leaves = record {
  parts = λ k. by k (eqb_tells k (slice_of sums.method minute));
  events = events;
  leaves = leaves;
}
  where
    by : (k : ℕ) → ((nat_eq k (slice_of sums.method minute) ≡ true)
        × (k ≡ slice_of sums.method minute))
        ⊎ ((nat_eq k (slice_of sums.method minute) ≡ false) × (k ≢ slice_of sums.method minute)) →
        (counts_after sums minute before after k).good
        ≤ (counts_after sums minute before after k).total
    by k (inl same) = subst (λ j. (counts_after sums minute before after j).good
        ≤ (counts_after sums minute before after j).total) (sym same.1) here
    by k (inr other) = rw other.0 (sound.parts k)

-- the leaf of a slice with data is a part, where its counts are
data-part : (method : Method) (counts : Counts) → counts.good ≤ counts.total
    → (leaf_with_data method counts).num ≤ (leaf_with_data method counts).den
data-part Occurrences counts le = le
data-part (Timeslices width target) counts le = by (is_at_least counts target)
  where
    by : (b : Bool) → cond b 1 0 ≤ 1
    by true = omega arith
    by false = omega arith
data-part (RatioTimeslices width) counts le =
    div-le_of_le-mul counts.total (by counts.good counts.total le)
  where
    by : (g t : ℕ) → g ≤ t → 1000000000 * g ≤ t * 1000000000
    by g t le = omega arith

leaf-part : (method : Method) (counts : Counts) → counts.good ≤ counts.total
    → (leaf method counts).num ≤ (leaf method counts).den
leaf-part method counts le =
    by (nat_eq counts.total 0) (leaf_with_data method counts) (data-part method counts le)
  where
    by : (b : Bool) (l : Leaf)
        → l.num ≤ l.den → (cond {A = Leaf} b (record { num = 0; den = 0 }) l).num
        ≤ (cond {A = Leaf} b (record { num = 0; den = 0 }) l).den
    by true l le = omega arith
    by false l le = le

-- sound counts have sound leaves
pub leaves-sound : (sums : CountedDays) → AreSoundCounts sums.method (counts_of sums)
    → AreSound (leaf_at sums)
leaves-sound sums sound = record {
  parts = λ k. leaf-part sums.method (counts_of sums k) (sound.parts k);
  few = sound.leaves;
}
