-- Widths that divide an hour, and the slices of a day.
use Rattle.std.proofs.Common.{◌≡◌, ℕ, ◌+◌, ◌-◌, ◌*◌, min, ◌/◌, ◌%◌, ◌<◌, ◌≤◌, ◌⊎◌, inl, inr, nat_le}
use Rattle.std.proofs.Common.{true, false, zero, suc, subst, ap, sym, ◌∙◌, arith}
use Rattle.std.specs.Int.{◌∣◌, div_ceil}
use Rattle.std.proofs.Math.Nat.{div-add-mod', div-div-eq-div-mul, div-mul-le_self, dvd-mul_left}
use Rattle.std.proofs.Math.Nat.{le_of_mul-le-mul_right, mul-div_cancel', pos_of_dvd_of_pos}
use Rattle.std.proofs.lemmas.Bool.Decides.{leb_tells}
use Rattle.slo_limits.specs.declared.TheConstants.{MINUTES_A_DAY}
use Rattle.slice_method.specs.declared.method.Method.{Method}
use Rattle.slice_method.specs.declared.method.Method.TheVariants.{Timeslices, RatioTimeslices}
use Rattle.window_sums.specs.Slices.{width_of}
use Rattle.slo_terms.specs.Sums.{slice_from}
use Rattle.std.proofs.lemmas.Nat.{div-mul-add, mod_below}
use Rattle.std.proofs.lemmas.Nat.Gcd.{le_of_dvd}

pub width-some : (w : ℕ) → w ∣ 60 → 0 < w
width-some w divides = pos_of_dvd_of_pos divides (omega arith)

pub width-few : (w : ℕ) → w ∣ 60 → w ≤ 60
width-few w divides = le_of_dvd (omega arith) divides

-- the width that a method names
pub width-named : (method : Method) (w : ℕ) →
    ((target : ℕ) × (method ≡ Timeslices w target)) ⊎ (method ≡ RatioTimeslices w) →
    width_of method ∣ 60 → w ∣ 60
width-named method w (inl is) divides = subst (λ m. width_of m ∣ 60) is.1 divides
width-named method w (inr is) divides = subst (λ m. width_of m ∣ 60) is divides

-- the slices of a day are a day long
day_long : (w : ℕ) → w ∣ 60 → w * (24 * (60 / w)) ≡ MINUTES_A_DAY
day_long w divides = by (60 / w) (mul-div_cancel' w divides)
  where
    regroup : (q : ℕ) → w * (24 * q) ≡ 24 * (w * q)
    regroup q = omega arith

    by : (q : ℕ) → w * q ≡ 60 → w * (24 * q) ≡ MINUTES_A_DAY
    by q e = regroup q ∙ ap (λ n. 24 * n) e

pub slices-some : (w : ℕ) → w ∣ 60 → 0 < 24 * (60 / w)
slices-some w divides = by (24 * (60 / w)) (day_long w divides)
  where
    by : (n : ℕ) → w * n ≡ MINUTES_A_DAY → 0 < n
    by zero e = omega (arith, e)
    by (suc n) e = omega arith

-- the day of a minute's slice is the minute's day
pub day_of_slice : (w minute : ℕ) → w ∣ 60
    → minute / w / (24 * (60 / w)) ≡ minute / MINUTES_A_DAY
day_of_slice w minute divides = div-div-eq-div-mul minute w (24 * (60 / w))
    ∙ ap (λ n. minute / n) (day_long w divides)

-- the first slice from a minute on, by a division that is rounded up
pub slice_from-div_ceil : (w minute : ℕ) → 0 < w → div_ceil minute w ≡ slice_from w minute
slice_from-div_ceil w minute some =
    by (minute / w) (minute % w) (sym (div-add-mod' minute w)) (mod_below minute w some)
  where
    none : (q : ℕ) → q + min 1 0 ≡ q
    none q = omega arith

    one : (q r : ℕ) → q + min 1 (suc r) ≡ q + 1
    one q r = omega arith

    short : (q : ℕ) → minute ≡ q * w + 0 → minute + (w - 1) ≡ q * w + (w - 1)
    short q e = omega (arith, e)

    next : (q r : ℕ) → minute ≡ q * w + suc r → minute + (w - 1) ≡ (q + 1) * w + r
    next q r e = omega (arith, e)

    by : (q r : ℕ) → minute ≡ q * w + r → r < w → q + min 1 r ≡ (minute + (w - 1)) / w
    by q zero e less = none q
        ∙ sym (ap (λ n. n / w) (short q e) ∙ div-mul-add q w (w - 1) (omega arith))
    by q (suc r) e less = one q r
        ∙ sym (ap (λ n. n / w) (next q r e) ∙ div-mul-add (q + 1) w r (omega arith))

-- the slices of an hour divide an hour
pub hour-divides : (w : ℕ) → w ∣ 60 → 60 / w ∣ 60
hour-divides w divides =
    subst (λ n. 60 / w ∣ n) (mul-div_cancel' w divides) (dvd-mul_left (60 / w) w)

-- so many days have the slices of so many days at most
pub slices-of_days : (n w from to first : ℕ) → w ∣ 60 → from ≤ first * w
    → to - from ≤ n * MINUTES_A_DAY → to / w - first ≤ n * (24 * (60 / w))
slices-of_days n w from to first divides begins few =
    le_of_mul-le-mul_right (by (leb_tells first (to / w))) (width-some w divides)
  where
    times : (a b : ℕ) → (a + b) * w ≡ a * w + b * w
    times a b = omega arith

    regroup : (q : ℕ) → n * (24 * q) * w ≡ n * (w * (24 * q))
    regroup q = omega arith

    all : (q : ℕ) → w * (24 * q) ≡ MINUTES_A_DAY → n * (24 * q) * w ≡ n * MINUTES_A_DAY
    all q e = regroup q ∙ ap (λ m. n * m) e

    none : (m : ℕ) → m ≡ 0 → m * w ≤ n * MINUTES_A_DAY
    none m e = rw e (omega arith)

    some : (d : ℕ) → to / w * w ≡ first * w + d * w → d * w ≤ n * MINUTES_A_DAY
    some d e = omega (arith, e, begins, few, div-mul-le_self to w)

    by : ((nat_le first (to / w) ≡ true) × (first ≤ to / w))
        ⊎ ((nat_le first (to / w) ≡ false) × (to / w < first))
        → (to / w - first) * w ≤ n * (24 * (60 / w)) * w
    by (inl e) = rw (all (60 / w) (day_long w divides))
        (some (to / w - first) (ap (λ n. n * w) (let e2 : to / w ≡ first + (to / w - first) =
        omega (arith, e.1) in e2) ∙ times first (to / w - first)))
    by (inr e) = rw (all (60 / w) (day_long w divides)) (none (to / w - first) (omega (arith, e.1)))
