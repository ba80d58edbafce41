-- One list alone holds the starts, so they are a function of the zone's text, the first moment, the
-- step and the horizon.
use Rattle.std.proofs.Common.{◌≡◌, ℕ, suc, ◌<◌, ◌≤◌, cond, nat_lt, List, [], ◌∷◌, length, map}
use Rattle.std.proofs.Common.{IsPermutation, refl, sym, subst, ap, ◌∙◌, inl, inr, arith}
use Rattle.std.specs.Prelude.{All, sum_by}
use Rattle.std.specs.List.{range_with_len}
use Rattle.std.specs.List.Sorted.{IsNonDecreasing}
use Rattle.std.proofs.lemmas.Bool.{cases_lt}
use Rattle.std.proofs.lemmas.Bool.Decides.{nat_tests}
use Rattle.std.proofs.lemmas.List.Sorted.{sum_by-IsPermutation}
use Rattle.std.proofs.lemmas.List.Sums.{sum_by-cons, sum_by-le}
use Rattle.zone_calendar.specs.Zone.{ZoneText}
use Rattle.zone_calendar.specs.Starts.{AreStarts, start_at}
use Rattle.zone_calendar.specs.declared.civil.Civil.{Civil}
use Rattle.slo_duration.specs.declared.duration.Duration.{Duration}

-- 1 for a number below another
abbrev below : ℕ → ℕ → ℕ
below limit n = cond (nat_lt n limit) 1 0

below_one : (limit n : ℕ) → n < limit → below limit n ≡ 1
below_one limit n lt = grind (arith, nat_tests)

below_none : (limit n : ℕ) → limit ≤ n → below limit n ≤ 0
below_none limit n le = grind (arith, nat_tests)

-- the lists have the same sum by every weight
SameSums : List ℕ → List ℕ → Type 0
SameSums xs ys = (f : ℕ → ℕ) → sum_by f xs ≡ sum_by f ys

-- the first of a list in order is at most each element
first_least : (x : ℕ) (xs : List ℕ) → IsNonDecreasing (x ∷ xs) → All (λ e. x ≤ e) (x ∷ xs)
first_least x xs sorted k d within = sorted 0 k d (omega arith) within

rest_sorted : (x : ℕ) (xs : List ℕ) → IsNonDecreasing (x ∷ xs) → IsNonDecreasing xs
rest_sorted x xs sorted i j d le within = sorted (suc i) (suc j) d (omega arith) (omega arith)

-- of lists in order with the same sums the first element of one isn't above that of the other
not_above : (x y : ℕ) (xs ys : List ℕ) → IsNonDecreasing (x ∷ xs)
    → SameSums (x ∷ xs) (y ∷ ys) → x ≤ y
unfolding SameSums
not_above x y xs ys sorted same = elim (cases_lt y x) [
  | inl lt ↦
      let none = sum_by-le (below x) 0 (x ∷ xs)
      (λ k d within. below_none x _ (first_least x xs sorted k d within)) in
      let one = below_one x y lt in
      let sums = same (below x) in
      let parts = sum_by-cons (below x) y ys in
      absurd (omega arith)
  | inr le ↦ le
]

-- lists in order with the same sums are the same
same_sorted : (xs ys : List ℕ) → IsNonDecreasing xs → IsNonDecreasing ys → SameSums xs ys → xs ≡ ys
unfolding SameSums
same_sorted [] [] a b same = refl
same_sorted [] (y ∷ ys) a b same = let one = same (λ e. 1) in
    let parts = sum_by-cons (λ e. 1) y ys in absurd (omega arith)
same_sorted (x ∷ xs) [] a b same = let one = same (λ e. 1) in
    let parts = sum_by-cons (λ e. 1) x xs in absurd (omega arith)
same_sorted (x ∷ xs) (y ∷ ys) a b same =
    let up = not_above x y xs ys a same in
    let down = not_above y x ys xs b (λ f. sym (same f)) in
    let first : x ≡ y = omega arith in
    let rest : SameSums xs ys = λ f.
    (let here = sum_by-cons f x xs in let there = sum_by-cons f y ys in let sums = same f in
    let value = ap f first in omega arith) in
    cc_pair first (same_sorted xs ys (rest_sorted x xs a) (rest_sorted y ys b) rest)
  where
    cc_pair : x ≡ y → xs ≡ ys → x ∷ xs ≡ y ∷ ys
    cc_pair e f = cc

-- the starts are one list
pub one_list : (zone : ZoneText) (first : Civil) (step : Duration) (horizon : ℕ) (a b : List ℕ)
    → AreStarts zone first step horizon a → AreStarts zone first step horizon b → a ≡ b
unfolding SameSums
one_list zone first step horizon a b of_a of_b =
    let no_shorter : length b ≤ length a =
    not_longer (length a) (length b) (λ k lt. (of_a.counted k).0 ((of_b.counted k).1 lt)) in
    let no_longer : length a ≤ length b =
    not_longer (length b) (length a) (λ k lt. (of_b.counted k).0 ((of_a.counted k).1 lt)) in
    let long : length b ≡ length a = omega arith in
    let made : IsPermutation (map (start_at zone first step) (range_with_len 0 (length a))) b =
    subst (λ (n : ℕ). IsPermutation (map (start_at zone first step) (range_with_len 0 n)) b) long
    of_b.starts in
    same_sorted a b of_a.sorted of_b.sorted
    (λ f. sum_by-IsPermutation f _ a of_a.starts ∙ sym (sum_by-IsPermutation f _ b made))
  where
    not_longer : (m n : ℕ) → ((k : ℕ) → k < n → k < m) → n ≤ m
    not_longer m n all = elim (cases_lt m n) [
      | inl lt ↦ let above = all m lt in absurd (omega arith)
      | inr le ↦ le
    ]
