-- How many numbers a list has, each once: as many as are found in it, where all lie in a range.
use Rattle.std.proofs.Common.{◌≡◌, ℕ, zero, suc, ◌+◌, ◌≤◌, ◌<◌, ◌==◌, ◌&&◌, ◌||◌, List, [], ◌∷◌}
use Rattle.std.proofs.Common.{Bool, true, false, not, cond, if◌then◌else◌, refl, ap, sym, ◌∙◌}
use Rattle.std.proofs.Common.{arith, filter, length, sum_by}
use Rattle.std.specs.List.{list_any, AllByRecursion}
use Rattle.std.proofs.lemmas.List.Sums.{sum_by-cons}
use Rattle.std.proofs.lemmas.Bool.Decides.{nat_tests}
use Rattle.slo_terms.specs.Rows.{first_of_each}
use Rattle.slo_terms.specs.Sums.{amount_at, share_within, sum_over}
use Rattle.slo_terms.proofs.SumLemmas.{sum_over-amount_at}
use Rattle.objective_days.specs.Days.{one_if, days_passing}

-- how often a number is among others
abbrev times : List ℕ → ℕ → ℕ
times xs d = amount_at (λ x. x) (λ x. 1) xs d

times-cons : (x : ℕ) (xs : List ℕ) (d : ℕ) → times (x ∷ xs) d ≡ one_if (x == d) + times xs d
times-cons x xs d =
    sum_by-cons (λ x. if x == d then 1 else 0) x xs ∙ ap (λ n. n + times xs d) (one (x == d))
  where
    one : (b : Bool) → cond b 1 0 ≡ one_if b
    one true = refl
    one false = refl

both : (x y d : ℕ) → (x == y) ≡ true → (x == d) ≡ (y == d)
both x y d h = grind (arith, nat_tests, h)

neither : (x y d : ℕ) → (x == y) ≡ false → (x == d) ≡ true → (y == d) ≡ false
neither x y d h i = grind (arith, nat_tests, h, i)

-- without a number there is none of it, and as many of each other
filtered : (x d : ℕ) (ys : List ℕ)
    → times (filter (λ later. not (x == later)) ys) d ≡ cond (x == d) 0 (times ys d)
filtered x d [] = none (x == d) 0 refl
  where
    none : (b : Bool) (n : ℕ) → n ≡ 0 → n ≡ cond b 0 n
    none true n h = h
    none false n h = refl
filtered x d (y ∷ ys) = by (x == y) (x == d) (y == d) (both x y d) (neither x y d) (filtered x d ys)
    (times-cons y ys d) (times-cons y (filter (λ later. not (x == later)) ys) d)
  where
    by : (a b c : Bool) → (a ≡ true → b ≡ c) → (a ≡ false → b ≡ true → c ≡ false) →
        times (filter (λ later. not (x == later)) ys) d ≡ cond b 0 (times ys d) →
        times (y ∷ ys) d ≡ one_if c + times ys d →
        times (y ∷ filter (λ later. not (x == later)) ys) d
        ≡ one_if c + times (filter (λ later. not (x == later)) ys) d →
        times (cond (not a) (y ∷ filter (λ later. not (x == later)) ys)
        (filter (λ later. not (x == later)) ys)) d ≡ cond b 0 (times (y ∷ ys) d)
    by true true c same other rest all kept = rest
    by true false true same other rest all kept = cc (same refl)
    by true false false same other rest all kept = rest ∙ omega (arith, all)
    by false true true same other rest all kept = cc (other refl refl)
    by false true false same other rest all kept = omega (arith, rest, kept)
    by false false c same other rest all kept = kept ∙ ap (λ n. one_if c + n) rest ∙ sym all

-- each number is once among the first of each
once : (xs : List ℕ) (d : ℕ)
    → times (first_of_each (λ a b. a == b) xs) d ≡ one_if (list_any (λ x. x == d) xs)
once [] d = refl
once (x ∷ xs) d =
    times-cons x (filter (λ later. not (x == later)) (first_of_each (λ a b. a == b) xs)) d
    ∙ by (x == d) (filtered x d (first_of_each (λ a b. a == b) xs)) (once xs d)
  where
    by : (b : Bool) → times (filter (λ later. not (x == later)) (first_of_each (λ a b. a == b) xs))
        d ≡ cond b 0 (times (first_of_each (λ a b. a == b) xs) d) →
        times (first_of_each (λ a b. a == b) xs) d ≡ one_if (list_any (λ x. x == d) xs) →
        one_if b + times (filter (λ later. not (x == later)) (first_of_each (λ a b. a == b) xs)) d
        ≡ one_if (b || list_any (λ x. x == d) xs)
    by true f g = omega (arith, f)
    by false f g = omega (arith, f, g)

-- a number in a range
pub record IsIn (first until d : ℕ) : Type 0 where
  pub above : first ≤ d
  pub below : d < until

kept_in : (first until : ℕ) (p : ℕ → Bool) (xs : List ℕ) → AllByRecursion (IsIn first until) xs
    → AllByRecursion (IsIn first until) (filter p xs)
kept_in first until p [] h = tt
kept_in first until p (x ∷ xs) h = by (p x) (kept_in first until p xs h.1)
  where
    by : (b : Bool) → AllByRecursion (IsIn first until) (filter p xs)
        → AllByRecursion (IsIn first until) (cond b (x ∷ filter p xs) (filter p xs))
    by true rest = (h.0, rest)
    by false rest = rest

firsts_in : (first until : ℕ) (xs : List ℕ) → AllByRecursion (IsIn first until) xs
    → AllByRecursion (IsIn first until) (first_of_each (λ a b. a == b) xs)
firsts_in first until [] h = tt
firsts_in first until (x ∷ xs) h = (
  h.0,
  kept_in first until (λ later. not (x == later))
      (first_of_each (λ a b. a == b) xs) (firsts_in first until xs h.1),
)

one_share : (first until d : ℕ) → IsIn first until d
    → share_within (λ x. x) (λ x. 1) first until d ≡ 1
one_share first until d h = grind (arith, nat_tests, h.above, h.below)

shares : (first until : ℕ) (xs : List ℕ) → AllByRecursion (IsIn first until) xs
    → sum_by (share_within (λ x. x) (λ x. 1) first until) xs ≡ length xs
shares first until [] h = refl
shares first until (x ∷ xs) h =
    sum_by-cons (share_within (λ x. x) (λ x. 1) first until) x xs
    ∙ omega (arith, one_share first until x h.0, shares first until xs h.1)

-- Numbers of a range, each once, are as many as the range has that are among them.
pub counted : (xs : List ℕ) (first count : ℕ) → AllByRecursion (IsIn first (first + count)) xs →
    length (first_of_each (λ a b. a == b) xs)
    ≡ days_passing (λ d. list_any (λ x. x == d) xs) first count
counted xs first count h =
    sym (shares first (first + count) (first_of_each (λ a b. a == b) xs)
    (firsts_in first (first + count) xs h))
    ∙ sym (sum_over-amount_at (λ x. x) (λ x. 1) (first_of_each (λ a b. a == b) xs) first count)
    ∙ (λ i. sum_over (λ d. once xs d i) first count)

-- what passes one of two tests, never both, are as many as what passes each
both_passing : (p q r : ℕ → Bool) → ((d : ℕ) → r d ≡ (p d || q d))
    → ((d : ℕ) → (p d && q d) ≡ false) → (count : ℕ)
    → days_passing r 0 count ≡ days_passing p 0 count + days_passing q 0 count
unfolding sum_over
both_passing p q r all apart zero = refl
both_passing p q r all apart (suc count) =
    let rest = both_passing p q r all apart count in
    let here = one (p (0 + count)) (q (0 + count)) (r (0 + count)) (all (0 + count))
    (apart (0 + count)) in
    omega (arith, rest, here)
  where
    one : (a b c : Bool) → c ≡ (a || b) → (a && b) ≡ false → one_if c ≡ one_if a + one_if b
    one true true c e f = cc f
    one true false c e f = omega (arith, ap one_if e)
    one false b c e f = omega (arith, ap one_if e)

-- numbers added up, which is at least each of them
abbrev total_of : List ℕ → ℕ
total_of [] = 0
total_of (x ∷ xs) = x + total_of xs

all_in : (xs : List ℕ) (n : ℕ) → total_of xs < n → AllByRecursion (IsIn 0 (0 + n)) xs
all_in [] n h = tt
all_in (x ∷ xs) n h = (
  record { above = omega arith; below = omega (arith, h) },
  all_in xs n (omega (arith, h)),
)

-- numbers of two lists that have none in common are as many, each once, as those of both
pub counted-apart : (xs ys zs : List ℕ) →
    ((d : ℕ) → list_any (λ x. x == d) zs ≡ (list_any (λ x. x == d) xs || list_any (λ x. x == d) ys))
    → ((d : ℕ) → (list_any (λ x. x == d) xs && list_any (λ x. x == d) ys) ≡ false) →
    length (first_of_each (λ a b. a == b) zs)
    ≡ length (first_of_each (λ a b. a == b) xs) + length (first_of_each (λ a b. a == b) ys)
counted-apart xs ys zs all apart =
    let most = total_of xs + (total_of ys + total_of zs) in
    let both = both_passing (λ d. list_any (λ x. x == d) xs) (λ d. list_any (λ x. x == d) ys)
    (λ d. list_any (λ x. x == d) zs) all apart (suc most) in
    let first = counted xs 0 (suc most) (all_in xs (suc most) (omega arith)) in
    let second = counted ys 0 (suc most) (all_in ys (suc most) (omega arith)) in
    let third = counted zs 0 (suc most) (all_in zs (suc most) (omega arith)) in
    third ∙ both ∙ (λ i. sym first i + sym second i)
