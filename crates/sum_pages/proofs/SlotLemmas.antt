-- The day of a slot, by the minute at which the slot begins.
use Rattle.std.proofs.Common.{◌≡◌, ℕ, zero, suc, ◌+◌, ◌-◌, ◌*◌, ◌/◌, ◌%◌, ◌≤◌, ◌<◌, arith, ap, sym}
use Rattle.std.proofs.Common.{subst, ◌∙◌}
use Rattle.std.proofs.Math.Nat.{div-add-mod', mul-le-mul_right}
use Rattle.std.proofs.lemmas.Nat.{div-mul-add, mod_below}

-- both factors of a number above 0 are above 0
pub some-right : (a b n : ℕ) → a * b ≡ n → 0 < n → 0 < b
some-right a zero n e lt = omega (arith, e, lt)
some-right a (suc b) n e lt = omega arith

pub some-left : (a b n : ℕ) → a * b ≡ n → 0 < n → 0 < a
some-left zero b n e lt = omega (arith, e, lt)
some-left (suc a) b n e lt = omega arith

-- a day has 1,440 minutes where an hour has 60
pub day-minutes : (count minutes : ℕ) → count * minutes ≡ 60 → 24 * count * minutes ≡ 1440
day-minutes count minutes e = omega (arith, e)

-- where so many slots are a day, and each has so many minutes, the minute of a slot tells its day
pub slot-day : (slot slots minutes : ℕ) → slots * minutes ≡ 1440 →
    slot * minutes / 1440 ≡ slot / slots
slot-day slot slots minutes e =
    by (slot / slots) (slot % slots) (div-add-mod' slot slots) (mod_below slot slots some)
  where
    some : 0 < slots
    some = some-left slots minutes 1440 e (omega arith)

    each : 0 < minutes
    each = some-right slots minutes 1440 e (omega arith)

    parts : (day place : ℕ) → (day * slots + place) * minutes
        ≡ day * (slots * minutes) + place * minutes
    parts day place = omega arith

    within : (place : ℕ) → place < slots → place * minutes < slots * minutes
    within place lt = omega (arith, mul-le-mul_right minutes (below place lt), each)
      where
        below : (place : ℕ) → place < slots → place + 1 ≤ slots
        below place lt = omega arith

    by : (day place : ℕ) → day * slots + place ≡ slot → place < slots
        → slot * minutes / 1440 ≡ day
    by day place is lt =
        ap (λ n. n * minutes / 1440) (sym is) ∙ ap (λ n. n / 1440) (parts day place)
        ∙ ap (λ n. (day * n + place * minutes) / 1440) e
        ∙ div-mul-add day 1440 (place * minutes)
        (subst (λ n. place * minutes < n) e (within place lt))

-- what a slot lies behind the first one of its day
pub slot-place : (slot slots day : ℕ) → day ≡ slot / slots → slot - day * slots ≡ slot % slots
slot-place slot slots day is = by (slot / slots) (slot % slots) is (div-add-mod' slot slots)
  where
    by : (q r : ℕ) → day ≡ q → q * slots + r ≡ slot → slot - day * slots ≡ r
    by q r same e = subst (λ k. slot - k * slots ≡ r) (sym same) (omega (arith, e))

pub slot-behind : (slot slots day : ℕ) → day ≡ slot / slots → day * slots ≤ slot
slot-behind slot slots day is = by (slot / slots) (slot % slots) is (div-add-mod' slot slots)
  where
    by : (q r : ℕ) → day ≡ q → q * slots + r ≡ slot → day * slots ≤ slot
    by q r same e = subst (λ k. k * slots ≤ slot) (sym same) (omega (arith, e))
