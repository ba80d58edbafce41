-- Sums over ranges of slices: split, moved on, changed at one slice.
use Rattle.std.proofs.Common.{◌≡◌, ◌≢◌, ◌⊎◌, ℕ, zero, suc, ◌+◌, ◌-◌, ◌≤◌, ◌<◌, nat_eq, true, false}
use Rattle.std.proofs.Common.{inl, inr, refl, sym, ap, ◌∙◌, arith}
use Rattle.std.proofs.lemmas.Bool.Decides.{eqb_tells}
use Rattle.exact_fraction.specs.declared.leaf.Leaf.{Leaf}
use Rattle.slo_terms.specs.Sums.{AreSound, leaves_over, sum_over}

pub no_term : (f : ℕ → ℕ) (first : ℕ) → sum_over f first 0 ≡ 0
unfolding sum_over
no_term f first = refl

pub one_more : (f : ℕ → ℕ) (first count : ℕ)
    → sum_over f first (suc count) ≡ sum_over f first count + f (first + count)
unfolding sum_over
one_more f first count = refl

-- a term is a sum of its own
pub sum_over-one : (f : ℕ → ℕ) (k : ℕ) → sum_over f k 1 ≡ f k
unfolding sum_over
sum_over-one f k = omega (arith, ap f (same k))
  where
    same : (n : ℕ) → n + 0 ≡ n
    same n = omega arith

-- nothing but zeros
pub sum_over-none : (first count : ℕ) → sum_over (λ k. 0) first count ≡ 0
unfolding sum_over
sum_over-none first zero = refl
sum_over-none first (suc count) = omega (arith, sum_over-none first count)

-- a range that ends where it begins
pub sum_over-start : (f : ℕ → ℕ) (first : ℕ) → sum_over f first (first - first) ≡ 0
sum_over-start f first = ap (sum_over f first) (none first) ∙ no_term f first
  where
    none : (n : ℕ) → n - n ≡ 0
    none n = omega arith

-- terms that are the same in a range give the same sum
pub sum_over-like : (f g : ℕ → ℕ) (first count : ℕ)
    → ((k : ℕ) → first ≤ k → k < first + count → f k ≡ g k)
    → sum_over f first count ≡ sum_over g first count
unfolding sum_over
sum_over-like f g first zero each = refl
sum_over-like f g first (suc count) each =
    omega (
      arith,
      each (first + count) (omega arith) (omega arith),
      sum_over-like f g first count (λ k a b. each k a (omega arith)),
    )

-- the same terms give the same sum
pub sum_over-same : (f g : ℕ → ℕ) → ((k : ℕ) → f k ≡ g k) → (first count : ℕ)
    → sum_over f first count ≡ sum_over g first count
sum_over-same f g each first count = sum_over-like f g first count (λ k a b. each k)

-- the same terms at other places
pub sum_over-moved : (f g : ℕ → ℕ) (first other count : ℕ)
    → ((i : ℕ) → i < count → f (first + i) ≡ g (other + i))
    → sum_over f first count ≡ sum_over g other count
unfolding sum_over
sum_over-moved f g first other zero each = refl
sum_over-moved f g first other (suc count) each =
    omega (
      arith,
      each count (omega arith),
      sum_over-moved f g first other count (λ i a. each i (omega arith)),
    )

-- a sum of no greater terms
pub sum_over-part : (f g : ℕ → ℕ) → ((k : ℕ) → f k ≤ g k) → (first count : ℕ)
    → sum_over f first count ≤ sum_over g first count
unfolding sum_over
sum_over-part f g each first zero = omega arith
sum_over-part f g each first (suc count) = omega (
  arith,
  each (first + count),
  sum_over-part f g each first count,
)

-- two ranges side by side
pub sum_over-split : (f : ℕ → ℕ) (first count more : ℕ)
    → sum_over f first (count + more) ≡ sum_over f first count + sum_over f (first + count) more
unfolding sum_over
sum_over-split f first count zero = omega (arith, ap (sum_over f first) (same count))
  where
    same : (n : ℕ) → n + 0 ≡ n
    same n = omega arith
sum_over-split f first count (suc more) =
    omega (
      arith,
      ap (sum_over f first) (next count more),
      sum_over-split f first count more,
      ap f (place first count more),
    )
  where
    next : (n m : ℕ) → n + suc m ≡ suc (n + m)
    next n m = omega arith

    place : (k n m : ℕ) → k + n + m ≡ k + (n + m)
    place k n m = omega arith

-- a range that is cut somewhere
pub sum_over-join : (f : ℕ → ℕ) (first mid end : ℕ) → first ≤ mid → mid ≤ end →
    sum_over f first (mid - first) + sum_over f mid (end - mid) ≡ sum_over f first (end - first)
sum_over-join f first mid end a b =
    sym (ap (sum_over f first) (whole first mid end a b)
    ∙ sum_over-split f first (mid - first) (end - mid)
    ∙ ap (λ k. sum_over f first (mid - first) + sum_over f k (end - mid)) (there first mid a))
  where
    whole : (first mid end : ℕ) → first ≤ mid → mid ≤ end → end - first ≡ mid - first + (end - mid)
    whole first mid end a b = omega arith

    there : (first mid : ℕ) → first ≤ mid → first + (mid - first) ≡ mid
    there first mid a = omega arith

-- one term more at the end
pub sum_over-next : (f : ℕ → ℕ) (first at : ℕ) → first ≤ at
    → sum_over f first (at + 1 - first) ≡ sum_over f first (at - first) + f at
sum_over-next f first at le = ap (sum_over f first) (more first at le)
    ∙ one_more f first (at - first)
    ∙ ap (λ k. sum_over f first (at - first) + f k) (there first at le)
  where
    more : (first at : ℕ) → first ≤ at → at + 1 - first ≡ suc (at - first)
    more first at le = omega arith

    there : (first at : ℕ) → first ≤ at → first + (at - first) ≡ at
    there first at le = omega arith

-- the first term by itself
pub sum_over-rest : (f : ℕ → ℕ) (first end : ℕ) → first < end
    → sum_over f first (end - first) ≡ f first + sum_over f (first + 1) (end - (first + 1))
sum_over-rest f first end lt =
    sym (sum_over-join f first (first + 1) end (omega arith) (omega arith))
    ∙ ap (λ n. sum_over f first n + sum_over f (first + 1) (end - (first + 1))) (one first)
    ∙ ap (λ n. n + sum_over f (first + 1) (end - (first + 1))) (sum_over-one f first)
  where
    one : (n : ℕ) → n + 1 - n ≡ 1
    one n = omega arith

-- a longer range has no less
pub sum_over-within : (f : ℕ → ℕ) (first count most : ℕ) → count ≤ most
    → sum_over f first count ≤ sum_over f first most
sum_over-within f first count most le = omega (
  arith,
  sum_over-split f first count (most - count),
  ap (sum_over f first) (same count most le),
)
  where
    same : (n m : ℕ) → n ≤ m → n + (m - n) ≡ m
    same n m le = omega arith

-- Terms that differ at one place alone: a range without it has the same sum ..
pub sum_over-apart : (f g : ℕ → ℕ) (place : ℕ) → ((k : ℕ) → k ≢ place → g k ≡ f k) →
    (first count : ℕ) →
    (place < first) ⊎ (first + count ≤ place) → sum_over g first count ≡ sum_over f first count
sum_over-apart f g place others first count apart =
    sum_over-like g f first count (λ k a b. others k (λ e. outside k a b e apart))
  where
    outside : (k : ℕ) → first ≤ k → k < first + count → k ≡ place
        → (place < first) ⊎ (first + count ≤ place) → ⊥
    outside k a b e (inl o) = omega arith
    outside k a b e (inr o) = omega arith

-- .. and one with it loses the one term and gains the other.
pub sum_over-changed : (f g : ℕ → ℕ) (place : ℕ) → ((k : ℕ) → k ≢ place → g k ≡ f k) →
    (first count : ℕ) →
    first ≤ place → place < first + count →
    sum_over g first count + f place ≡ sum_over f first count + g place
unfolding sum_over
sum_over-changed f g place others first zero a b = absurd (none a b)
  where
    none : first ≤ place → place < first + 0 → ⊥
    none a b = omega arith
sum_over-changed f g place others first (suc count) a b =
    by (eqb_tells (first + count) place) (sum_over-changed f g place others first count a)
  where
    by : ((nat_eq (first + count) place ≡ true) × (first + count ≡ place))
        ⊎ ((nat_eq (first + count) place ≡ false) × (first + count ≢ place)) →
        (place < first + count → sum_over g first count + f place
        ≡ sum_over f first count + g place) →
        sum_over g first count + g (first + count) + f place
        ≡ sum_over f first count + f (first + count) + g place
    by (inl e) before = omega (
      arith,
      sum_over-apart f g place others first count (inr (omega (arith, e.1))),
      ap f e.1,
      ap g e.1,
    )
    by (inr e) before = omega (arith, others (first + count) e.1, before (within e.1 b))
      where
        within : first + count ≢ place → place < first + suc count → place < first + count
        within other b = omega arith

-- a term is no more than the sum
pub sum_over-term : (f : ℕ → ℕ) (place first count : ℕ) → first ≤ place → place < first + count
    → f place ≤ sum_over f first count
sum_over-term f place first count a b =
    omega (
      arith,
      ap (sum_over f first) (whole first count place a b),
      sum_over-split f first (place - first) (suc (first + count - place - 1)),
      ap (λ k. sum_over f k (suc (first + count - place - 1))) (there first place a),
      sum_over-split f place 1 (first + count - place - 1),
      sum_over-one f place,
      ap (sum_over f place) (next (first + count - place - 1)),
    )
  where
    whole : (first count place : ℕ) → first ≤ place → place < first + count
        → count ≡ place - first + suc (first + count - place - 1)
    whole first count place a b = omega arith

    there : (first place : ℕ) → first ≤ place → first + (place - first) ≡ place
    there first place a = omega arith

    next : (n : ℕ) → suc n ≡ 1 + n
    next n = omega arith

-- the leaves of a range are a part, where each is
pub leaves-part : (leaf : ℕ → Leaf) → AreSound leaf → (first count : ℕ)
    → (leaves_over leaf first count).num ≤ (leaves_over leaf first count).den
leaves-part leaf sound first count =
    sum_over-part (λ k. (leaf k).num) (λ k. (leaf k).den) sound.parts first count
