use Rattle.std.proofs.Common.{◌≡◌, ℕ, zero, suc, ◌+◌, ◌*◌, ◌/◌, ◌%◌, ◌<◌, ◌≤◌, ℤ, pos, negsuc}
use Rattle.std.proofs.Common.{neg_ℤ, ◌*ℤ◌, ◌≤ℤ◌, unsigned_abs, refl, sym, ap, ◌∙◌, subst, arith}
use Rattle.std.specs.Int.{IsGcd, ◌∣◌}
use mir.Syntax.{w128}
use mir.Val.{SFits, of_z, to_z}
use Rattle.std.proofs.lemmas.Nat.{mod-mul-add}
use Rattle.std.proofs.Math.Nat.{mod-add-div, mul-lt-mul_of_pos_left, dvd-mul_left, mul_comm}
use Rattle.std.proofs.Math.Nat.{eq_of_mul-eq-mul_right, mod-lt, mul-zero, mul-one, div-le_self}
use Rattle.std.proofs.Math.Nat.{mul-div_cancel', pos_of_dvd_of_pos, one-dvd, mul-dvd-mul_left}
use Rattle.std.proofs.Math.Nat.{dvd_of_mul-dvd-mul_left}
use Rattle.std.proofs.Math.IntN.{pos-ne-negsuc, pos-*ℤ-pos, negsuc-*ℤ-pos}
use Rattle.std.proofs.lemmas.Int.{ints, to_z-of_z}
use Rattle.std.proofs.lemmas.Nat.Gcd.{same_from_IsGcd, dvd-zero, dvd_antisymm, IsGcd-from_zero}
use Rattle.std.proofs.lemmas.Nat.Gcd.{IsGcd-from_mod}
use Rattle.exact_fraction.specs.Ratio.{Ratio, IsLowest, IsFraction, SameValue, gcd, gcd_within}
use Rattle.exact_fraction.specs.Ratio.{lowest, most_part, with_sign_of}

-- the steps suffice
more-steps : (j k a b : ℕ) → b < j → b < k → gcd_within j a b ≡ gcd_within k a b
more-steps zero k a b hj hk = absurd (omega arith)
more-steps (suc j) zero a b hj hk = absurd (omega arith)
more-steps (suc j) (suc k) a zero hj hk = refl
more-steps (suc j) (suc k) a (suc b) hj hk =
    let low : a % suc b < suc b = mod-lt a (omega arith) in
    more-steps j k (suc b) (a % suc b) (omega arith) (omega arith)

-- one step of Euclid's
pub gcd-step : (a b : ℕ) → 0 < b → gcd b (a % b) ≡ gcd a b
gcd-step a zero h = absurd (omega arith)
gcd-step a (suc b) h =
    let low : a % suc b < suc b = mod-lt a (omega arith) in
    more-steps (suc (a % suc b)) (suc b) (suc b) (a % suc b) (omega arith) low

within-is_gcd : (k a b : ℕ) → b < k → IsGcd a b (gcd_within k a b)
within-is_gcd zero a b h = absurd (omega arith)
within-is_gcd (suc k) a zero h = IsGcd-from_zero a 0 refl
within-is_gcd (suc k) a (suc b) h =
    let low : a % suc b < suc b = mod-lt a (omega arith) in
    IsGcd-from_mod a (suc b) _ (within-is_gcd k (suc b) (a % suc b) (omega arith))

pub is_gcd : (a b : ℕ) → IsGcd a b (gcd a b)
is_gcd a b = within-is_gcd (suc b) a b (omega arith)

pub gcd-positive : (a b : ℕ) → 0 < b → 0 < gcd a b
gcd-positive a b h = pos_of_dvd_of_pos (is_gcd a b).1 h

multiple-divides : (a g d : ℕ) → g ∣ a → d ∣ (a / g) → (g * d) ∣ a
multiple-divides a g d h k = let e = mul-div_cancel' g h in let P : ℕ → Type 0 = λ n. (g * d) ∣ n in
    subst P e (mul-dvd-mul_left d g k)

-- what is left after the greatest common divisor has none
quotients-coprime : (a b g : ℕ) → 0 < g → IsGcd a b g → IsGcd (a / g) (b / g) 1
quotients-coprime a b g p h = (
  one-dvd _,
  one-dvd _,
  λ d da db.
      let both : (g * d) ∣ g =
      h.2 (g * d) (multiple-divides a g d h.0 da) (multiple-divides b g d h.1 db) in
      let P : ℕ → Type 0 = λ n. (g * d) ∣ n in
      dvd_of_mul-dvd-mul_left d p (subst P (sym (mul-one g)) both),
)

unsigned_abs-with_sign_of : (n : ℤ) (size : ℕ) → unsigned_abs (with_sign_of n size) ≡ size
unsigned_abs-with_sign_of (pos n) size = refl
unsigned_abs-with_sign_of (negsuc n) zero = refl
unsigned_abs-with_sign_of (negsuc n) (suc size) = refl

quotient-positive : (b g : ℕ) → 0 < b → g ∣ b → 0 < b / g
quotient-positive b g h d = let e = mul-div_cancel' g d in by (b / g) e
  where
    by : (q : ℕ) → g * q ≡ b → 0 < q
    by zero e = absurd (let none = mul-zero g in omega (arith, e, none))
    by (suc q) e = omega arith

pub lowest-IsLowest : (n : ℤ) (d : ℕ) → 0 < d → IsLowest (lowest n d)
unfolding lowest
lowest-IsLowest n d h =
    let common = gcd (unsigned_abs n) d in
    let most = is_gcd (unsigned_abs n) d in
    record {
      positive = quotient-positive d common h most.1;
      coprime =
          (let P : ℕ → Type 0 = λ k. IsGcd k (d / common) 1 in
          subst P (sym (unsigned_abs-with_sign_of n (unsigned_abs n / common))) (quotients-coprime
          (unsigned_abs n) d common (gcd-positive (unsigned_abs n) d h) most));
    }

pub neg-product : (m n : ℕ) → neg_ℤ (pos m) *ℤ pos n ≡ neg_ℤ (pos (m * n))
neg-product zero n = pos-*ℤ-pos 0 n ∙ (let none : 0 * n ≡ 0 = omega arith in rw none refl)
neg-product (suc m) n = negsuc-*ℤ-pos m n

crossed : (a d g q r : ℕ) → g * q ≡ a → g * r ≡ d → q * d ≡ a * r
crossed a d g q r ha hd = rw (sym ha, sym hd) (omega arith)

pub lowest-SameValue : (n : ℤ) (d : ℕ) → 0 < d → SameValue (lowest n d) n d
unfolding lowest
lowest-SameValue (pos a) d h =
    let g = gcd a d in
    let most = is_gcd a d in
    pos-*ℤ-pos (a / g) d
    ∙ ap pos (crossed a d g (a / g) (d / g) (mul-div_cancel' g most.0) (mul-div_cancel' g most.1))
    ∙ sym (pos-*ℤ-pos a (d / g))
lowest-SameValue (negsuc a) d h =
    let g = gcd (suc a) d in
    let most = is_gcd (suc a) d in
    neg-product (suc a / g) d
    ∙ ap (λ k. neg_ℤ (pos k)) (crossed (suc a) d g (suc a / g) (d / g) (mul-div_cancel' g most.0)
    (mul-div_cancel' g most.1))
    ∙ sym (negsuc-*ℤ-pos a (d / g))

pub lowest-IsFraction : (n : ℤ) (d : ℕ) → 0 < d → unsigned_abs n ≤ most_part → d ≤ most_part
    → IsFraction (lowest n d)
unfolding lowest
lowest-IsFraction n d h hn hd =
    let common = gcd (unsigned_abs n) d in
    record {
      lowest_terms = lowest-IsLowest n d h;
      num_fits =
          (let P : ℕ → Type 0 = λ k. k ≤ most_part in
          subst P (sym (unsigned_abs-with_sign_of n (unsigned_abs n / common)))
          (let less = div-le_self (unsigned_abs n) common in omega arith));
      den_fits = (let less = div-le_self d common in omega arith);
    }

-- the parts that the code computes, passed as machine numbers, are those of the fraction
-- in lowest terms
pub parts-lowest : (n m : ℤ) (d size common : ℕ)
    → SFits w128 n → SFits w128 m → size ≡ unsigned_abs (to_z w128 (of_z w128 n))
    → common ≡ gcd size d → m ≡ with_sign_of (to_z w128 (of_z w128 n)) (size / common)
    → record { num = to_z w128 (of_z w128 m); den = d / common } ≡ lowest n d
unfolding lowest
parts-lowest n m d size common fn fm hs hc hm =
    let en = to_z-of_z w128 n fn in
    let em = to_z-of_z w128 m fm in
    let size-is : size ≡ unsigned_abs n = hs ∙ ap unsigned_abs en in
    let num-is : m ≡ with_sign_of n (size / common) = hm
    ∙ ap (λ z. with_sign_of z (size / common)) en in
    rw (em, num-is, hc, size-is) refl

-- ---- one fraction in lowest terms for each value

remainder-parts : (a b c q r : ℕ) → r + b * q ≡ a → c * a ≡ q * (c * b) + c * r
remainder-parts a b c q r e = rw (sym e) (omega arith)

scaled-remainder : (a b c : ℕ) → 0 < b → 0 < c → (c * a) % (c * b) ≡ c * (a % b)
scaled-remainder a b c hb hc =
    ap (λ n. n % (c * b)) (remainder-parts a b c (a / b) (a % b) (mod-add-div a b))
    ∙ mod-mul-add (a / b) (c * b) (c * (a % b)) (mul-lt-mul_of_pos_left (mod-lt a hb) hc)

scaled-is_gcd : (k c a b : ℕ) → 0 < c → b < k → IsGcd (c * a) (c * b) (c * gcd_within k a b)
scaled-is_gcd zero c a b hc h = absurd (omega arith)
scaled-is_gcd (suc k) c a zero hc h = IsGcd-from_zero (c * a) (c * 0) (mul-zero c)
scaled-is_gcd (suc k) c a (suc b) hc h =
    let low : a % suc b < suc b = mod-lt a (omega arith) in
    let P : ℕ → Type 0 = λ r. IsGcd (c * suc b) r (c * gcd_within k (suc b) (a % suc b)) in
    IsGcd-from_mod (c * a) (c * suc b)
    _ (subst P (sym (scaled-remainder a (suc b) c (omega arith) hc))
    (scaled-is_gcd k c (suc b) (a % suc b) hc (omega arith)))

-- what divides a product and is coprime with one factor divides the other
divides-other : (a b c : ℕ) → IsGcd a b 1 → b ∣ (c * a) → b ∣ c
divides-other a b zero h d = dvd-zero b
divides-other a b (suc c) h d =
    let one : gcd a b ≡ 1 = same_from_IsGcd a b _ _ (is_gcd a b) h in
    let most = scaled-is_gcd (suc b) (suc c) a b (omega arith) (omega arith) in
    let P : ℕ → Type 0 = λ n. b ∣ n in
    subst P (ap (λ g. suc c * g) one ∙ mul-one (suc c)) (most.2 b d (dvd-mul_left b (suc c)))

sizes-crossed : (m n : ℤ) (d e : ℕ) → m *ℤ pos e ≡ n *ℤ pos d
    → unsigned_abs m * e ≡ unsigned_abs n * d
sizes-crossed m n d e h = sym (size-product m e) ∙ ap unsigned_abs h ∙ size-product n d
  where
    size-neg : (k : ℕ) → unsigned_abs (neg_ℤ (pos k)) ≡ k
    size-neg zero = refl
    size-neg (suc k) = refl

    size-product : (m : ℤ) (e : ℕ) → unsigned_abs (m *ℤ pos e) ≡ unsigned_abs m * e
    size-product (pos a) e = ap unsigned_abs (pos-*ℤ-pos a e)
    size-product (negsuc a) e = ap unsigned_abs (negsuc-*ℤ-pos a e) ∙ size-neg (suc a * e)

positive-negative : (a b d : ℕ) → 0 < d → pos a *ℤ pos d ≡ negsuc b *ℤ pos d → ⊥
positive-negative a b zero p h = absurd (omega arith)
positive-negative a b (suc d) p h =
    let many : suc b * suc d ≡ suc (b * suc d + d) = omega arith in
    pos-ne-negsuc (a * suc d) (b * suc d + d)
    (sym (pos-*ℤ-pos a (suc d)) ∙ h ∙ negsuc-*ℤ-pos b (suc d) ∙ ap (λ n. neg_ℤ (pos n)) many)

same-factor : (m n : ℤ) (d : ℕ) → 0 < d → m *ℤ pos d ≡ n *ℤ pos d → m ≡ n
same-factor (pos a) (pos b) d p h =
    ap pos (eq_of_mul-eq-mul_right d p a b (sizes-crossed (pos a) (pos b) d d h))
same-factor (pos a) (negsuc b) d p h = absurd (positive-negative a b d p h)
same-factor (negsuc a) (pos b) d p h = absurd (positive-negative b a d p (sym h))
same-factor (negsuc a) (negsuc b) d p h =
    let same : suc a ≡ suc b =
    eq_of_mul-eq-mul_right d p (suc a) (suc b) (sizes-crossed (negsuc a) (negsuc b) d d h) in
    ap negsuc (omega arith)

-- two fractions in lowest terms that are equal have the same parts
pub lowest-unique : (r s : Ratio) → IsLowest r → IsLowest s → SameValue r s.num s.den → r ≡ s
lowest-unique r s hr hs h =
    let sizes = sizes-crossed r.num s.num r.den s.den h in
    let P : ℕ → Type 0 = λ n. r.den ∣ n in
    let Q : ℕ → Type 0 = λ n. s.den ∣ n in
    let one : r.den ∣ s.den =
    divides-other (unsigned_abs r.num) r.den s.den hr.coprime (subst P (sym sizes
    ∙ mul_comm (unsigned_abs r.num) s.den) (dvd-mul_left r.den (unsigned_abs s.num))) in
    let two : s.den ∣ r.den =
    divides-other (unsigned_abs s.num) s.den r.den hs.coprime (subst Q
    (sizes ∙ mul_comm (unsigned_abs s.num) r.den) (dvd-mul_left s.den (unsigned_abs r.num))) in
    let dens : r.den ≡ s.den = dvd_antisymm one two in
    let nums : r.num ≡ s.num =
    same-factor r.num s.num s.den hs.positive (h ∙ ap (λ d. s.num *ℤ pos d) dens) in
    ap (λ n. record { num = n; den = r.den }) nums ∙ ap (λ d. record { num = s.num; den = d }) dens

-- lowest terms are no greater than the terms that they are made of
pub lowest-num-le : (n : ℤ) (d : ℕ) → unsigned_abs (lowest n d).num ≤ unsigned_abs n
unfolding lowest
lowest-num-le n d =
    let common = gcd (unsigned_abs n) d in
    let P : ℕ → Type 0 = λ k. k ≤ unsigned_abs n in
    subst P (sym (unsigned_abs-with_sign_of n (unsigned_abs n / common)))
    (div-le_self (unsigned_abs n) common)

pub lowest-den-le : (n : ℤ) (d : ℕ) → (lowest n d).den ≤ d
unfolding lowest
lowest-den-le n d = div-le_self d (gcd (unsigned_abs n) d)

-- a number that isn't negative stays so
pub lowest-not_negative : (n : ℤ) (d : ℕ) → pos 0 ≤ℤ n → pos 0 ≤ℤ (lowest n d).num
unfolding lowest
lowest-not_negative (pos a) d h = omega (arith, ints)
lowest-not_negative (negsuc a) d h = absurd (omega (arith, ints))
