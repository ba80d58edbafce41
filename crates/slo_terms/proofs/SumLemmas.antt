-- Sums over places, and sums over rows.
use Rattle.std.proofs.Common.{◌≡◌, ℕ, zero, suc, ◌+◌, ◌-◌, ◌≤◌, List, [], ◌∷◌, refl, ap, sym, ◌∙◌}
use Rattle.std.proofs.Common.{arith, sum_by, nat_le, nat_lt, ◌&&◌, ◌==◌, if◌then◌else◌}
use Rattle.std.proofs.lemmas.List.Sums.{sum_by-cons}
use Rattle.std.proofs.lemmas.Bool.Decides.{nat_tests}
use Rattle.slo_terms.specs.Sums.{sum_over, slice_from, slices_until, sum_of_slices, amount_at}
use Rattle.slo_terms.specs.Sums.{share_within}

-- sums of terms that add up pairwise
pub sum_by-add : {A : Type 0} (f g h : A → ℕ) → ((x : A) → f x + g x ≡ h x) → (xs : List A)
    → sum_by f xs + sum_by g xs ≡ sum_by h xs
sum_by-add f g h each [] = refl
sum_by-add f g h each (x ∷ xs) =
    omega (
      arith,
      sum_by-cons f x xs,
      sum_by-cons g x xs,
      sum_by-cons h x xs,
      each x,
      sum_by-add f g h each xs,
    )

-- a sum of nothing but zeros
pub sum_by-none : {A : Type 0} (f : A → ℕ) → ((x : A) → f x ≡ 0) → (xs : List A) → sum_by f xs ≡ 0
sum_by-none f each [] = refl
sum_by-none f each (x ∷ xs) = omega (arith, sum_by-cons f x xs, each x, sum_by-none f each xs)

one_more : (minute amount from count : ℕ) →
    (if nat_le from minute && nat_lt minute (from + count) then amount else 0)
    + (if minute == from + count then amount else 0)
    ≡ (if nat_le from minute && nat_lt minute (from + suc count) then amount else 0)
one_more minute amount from count = grind (arith, nat_tests)

empty_range : (minute amount from : ℕ)
    → (if nat_le from minute && nat_lt minute (from + 0) then amount else 0) ≡ 0
empty_range minute amount from = grind (arith, nat_tests)

-- Minute by minute the rows of a range add up to what its rows add up to.
pub sum_over-amount_at : {A : Type 0} (minute_of amount_of : A → ℕ) (rows : List A)
    (from count : ℕ) →
    sum_over (amount_at minute_of amount_of rows) from count
    ≡ sum_by (share_within minute_of amount_of from (from + count)) rows
unfolding sum_over
sum_over-amount_at minute_of amount_of rows from zero =
    sym (sum_by-none (share_within minute_of amount_of from (from + 0))
    (λ row. empty_range (minute_of row) (amount_of row) from) rows)
sum_over-amount_at minute_of amount_of rows from (suc count) =
    ap (λ n. n + amount_at minute_of amount_of rows (from + count))
    (sum_over-amount_at minute_of amount_of rows from count)
    ∙ sum_by-add (share_within minute_of amount_of from (from + count))
    (λ row. if minute_of row == from + count then amount_of row else 0)
    (share_within minute_of amount_of from (from + suc count))
    (λ row. one_more (minute_of row) (amount_of row) from count) rows

first_minute : (from : ℕ) → slice_from 1 from ≡ from
first_minute from = omega arith

past_minute : (to : ℕ) → slices_until 1 to ≡ to
past_minute to = omega arith

-- Over slices of one minute the sum of a range is what the rows of its minutes add up to.
pub sum_of_slices-minutes : {A : Type 0} (minute_of good_of total_of : A → ℕ) (rows : List A)
    (from to : ℕ) → from ≤ to →
    sum_of_slices 1 (λ minute. record {
      num = amount_at minute_of good_of rows minute;
      den = amount_at minute_of total_of rows minute;
    }) from to
    ≡ record {
      num = sum_by (share_within minute_of good_of from to) rows;
      den = sum_by (share_within minute_of total_of from to) rows;
    }
sum_of_slices-minutes minute_of good_of total_of rows from to le =
    rw (
      first_minute from,
      past_minute to,
      sum_over-amount_at minute_of good_of rows from (to - from),
      sum_over-amount_at minute_of total_of rows from (to - from),
      whole,
    ) refl
  where
    whole : from + (to - from) ≡ to
    whole = omega arith
