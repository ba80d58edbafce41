use Rattle.std.proofs.Common.{◌≡◌, ℕ, zero, suc, ◌+◌, ◌*◌, ◌/◌, ◌^◌, ◌<◌, ◌≤◌, ℤ, pos, negsuc}
use Rattle.std.proofs.Common.{neg_ℤ, ◌+ℤ◌, ◌*ℤ◌, ◌≤ℤ◌, ◌<ℤ◌, refl, ap, ◌∙◌, arith}
use Rattle.std.specs.Int.{int_div_euclid}
use Rattle.std.proofs.Math.IntN.{pos-*ℤ-pos, negsuc-*ℤ-pos}
use Rattle.std.proofs.Math.Nat.{div-add-mod', mod-lt, suc-mul}
use Rattle.std.proofs.lemmas.Int.{ints}
use Rattle.exact_fraction.specs.Ratio.{Ratio, IsLowest}
use Rattle.exact_fraction.specs.DecimalText.{IsFloor, percent_parts}
use Rattle.exact_fraction.proofs.LowestTerms.{neg-product}

next-times : (k d : ℕ) → (k + 1) * d ≡ k * d + d
next-times k d = omega arith

negative-at-most : (m a : ℕ) → a + 1 ≤ m → neg_ℤ (pos m) ≤ℤ negsuc a
negative-at-most zero a h = absurd (omega arith)
negative-at-most (suc m) a h = omega (arith, ints)

negative-above : (m a : ℕ) → m ≤ a → negsuc a <ℤ neg_ℤ (pos m)
negative-above zero a h = omega (arith, ints)
negative-above (suc m) a h = omega (arith, ints)

one-up : (k : ℕ) → negsuc k +ℤ pos 1 ≡ neg_ℤ (pos k)
one-up zero = refl
one-up (suc k) = omega (arith, ints)

floor : (z : ℤ) (d : ℕ) → 0 < d → IsFloor (int_div_euclid z (pos d)) z d
floor (pos a) d h =
    let parts = div-add-mod' a d in
    let low = mod-lt a h in
    let this = pos-*ℤ-pos (a / d) d in
    let next = pos-*ℤ-pos (a / d + 1) d in
    let more = next-times (a / d) d in
    record {
      at_most = rw this (omega (arith, ints));
      next_above = rw next (omega (arith, ints));
    }
floor (negsuc a) d h =
    let parts = div-add-mod' a d in
    let low = mod-lt a h in
    let this = negsuc-*ℤ-pos (a / d) d in
    let next = ap (λ q. q *ℤ pos d) (one-up (a / d)) ∙ neg-product (a / d) d in
    let more : suc (a / d) * d ≡ a / d * d + d = suc-mul (a / d) d in
    record {
      at_most = rw this (negative-at-most _ a (omega arith));
      next_above = rw next (negative-above _ a (omega arith));
    }

-- the percentage that is written is rounded toward minus infinity
pub percent-floor : (r : Ratio) → IsLowest r
    → IsFloor (percent_parts r) (r.num *ℤ pos (10 ^ 6)) r.den
percent-floor r h = floor (r.num *ℤ pos (10 ^ 6)) r.den h.positive
