-- A number of at most 19 digits fits 64 bits.
use Rattle.std.proofs.Common.{◌≡◌, ◌<◌, ◌≤◌, ◌-◌, ◌+◌, ◌*◌, ◌^◌, length, List, ℕ, suc, [], ◌∷◌, sym}
use Rattle.std.proofs.Common.{ap, refl, Bool, false, true, arith, cond, not, Option, Some, None}
use Rattle.std.specs.Prelude.{nat_le, option_and_then, ◌==◌, ◌&&◌}
use Rattle.std.specs.Char.{is_ascii_digit}
use Rattle.std.specs.List.{list_all, fold}
use Rattle.std.proofs.Math.Nat.{mul-le-mul_right, mul_assoc, pow-le-pow_right, pow-succ'}
use Rattle.exact_fraction.specs.Digits.{with_digit, number_of, digits_value, number_within}
use Rattle.exact_fraction.specs.Digits.{is_number, at_most}
use Rattle.message_heads.specs.Fields.{length_of, only_length}
use Rattle.message_heads.specs.Named.{sort_of}

both_0 : (a b : Bool) → (a && b) ≡ true → a ≡ true
both_0 true b h = refl
both_0 false b h = h

both_1 : (a b : Bool) → (a && b) ≡ true → b ≡ true
both_1 true b h = h
both_1 false b h = absurd (cc h)

le_true : (a b : ℕ) → a ≤ b → nat_le a b ≡ true
le_true a b h = grind (arith)

digit_small : (d : ℕ) → is_ascii_digit d ≡ true → d - 48 ≤ 9
digit_small d h = grind (arith)

step : (b k : ℕ) → b * 10 ^ suc k ≡ (b * 10) * 10 ^ k
step b k = rw (pow-succ' 10 k) (sym (mul_assoc b 10 (10 ^ k)))

digits_below : (a : ℕ) (xs : List ℕ) → list_all is_ascii_digit xs ≡ true
    → fold with_digit a xs < (a + 1) * 10 ^ length xs
digits_below a [] all = grind (arith)
digits_below a (d ∷ xs) all =
    let first : is_ascii_digit d ≡ true =
    both_0 (is_ascii_digit d) (list_all is_ascii_digit xs) all in
    let others : list_all is_ascii_digit xs ≡ true =
    both_1 (is_ascii_digit d) (list_all is_ascii_digit xs) all in
    let more = digits_below (with_digit a d) xs others in
    let small = digit_small d first in
    let n = 10 ^ length xs in
    let wide : (a * 10 + (d - 48) + 1) * n ≤ ((a + 1) * 10) * n =
    mul-le-mul_right n (omega arith) in
    let e : (a + 1) * 10 ^ suc (length xs) ≡ ((a + 1) * 10) * n = step (a + 1) (length xs) in
    rw e (omega (arith, more, wide))

fit : (v : List ℕ) → length v ≤ 19 → list_all is_ascii_digit v ≡ true
    → number_of v ≤ 18446744073709551615
fit v few is =
    let below : number_of v < (0 + 1) * 10 ^ length v = digits_below 0 v is in
    let most : 10 ^ length v ≤ 10 ^ 19 = pow-le-pow_right (omega arith) few in
    omega (arith, below, most)

pub fits : (v : List ℕ) → length v ≤ 19 → number_within 18446744073709551615 v ≡ length_of v
fits v few = rw (le_true (length v) 19 few) (by (is_number v) refl)
  where
    by : (b : Bool) → is_number v ≡ b
        → option_and_then (at_most 18446744073709551615) (cond b (Some (number_of v)) None)
        ≡ cond b (Some (number_of v)) None
    by false e = refl
    by true e =
        let is : list_all is_ascii_digit v ≡ true =
        both_1 (not (length v == 0)) (list_all is_ascii_digit v) e in
        rw (le_true (number_of v) 18446744073709551615 (fit v few is)) refl

-- the length that one value gives
pub only : (v : List ℕ) (vs : List (List ℕ)) → Some (Some v) ≡ sort_of vs
    → length_of v ≡ only_length vs
only v [] same = cc same
only v (w ∷ []) same = cc same
only v (w ∷ u ∷ vs) same = cc same
