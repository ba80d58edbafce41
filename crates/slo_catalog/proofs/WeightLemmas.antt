-- The weight of an object: its bytes, where they are within the limit.
use Rattle.std.proofs.Common.{◌≡◌, ℕ, ◌+◌, ◌≤◌, ◌<◌, ◌*◌, ◌^◌, Bool, true, false, cond, Some, None}
use Rattle.std.proofs.Common.{List, [], ◌∷◌, length, refl, arith}
use Rattle.std.specs.Prelude.{nat_le, nat_lt, unwrap_or}
use Rattle.std.proofs.lemmas.List.Sums.{sum_by-cons, sum_by-le, sum_by-le-sum_by}
use Rattle.std.proofs.lemmas.Bool.Decides.{nat_tests}
use Rattle.object_terms.specs.declared.object.Object.{Object}
use Rattle.slo_limits.specs.declared.TheConstants.{MAX_CATALOG_BYTES}
use Rattle.yaml_terms.specs.Room.{up_to}
use Rattle.catalog_terms.specs.Limits.{weight, total_weight, written_bytes, catalog_bytes}

capped_less : (most n : ℕ) → unwrap_or (up_to most n) (most + 1) ≤ n
capped_less most n = by (nat_le n most) refl
  where
    by : (b : Bool) → nat_le n most ≡ b → unwrap_or (cond b (Some n) None) (most + 1) ≤ n
    by true e = omega arith
    by false e = grind (arith, nat_tests)

capped_exact : (most n : ℕ) → unwrap_or (up_to most n) (most + 1) ≤ most
    → unwrap_or (up_to most n) (most + 1) ≡ n
capped_exact most n h = by (nat_le n most) h
  where
    by : (b : Bool) → unwrap_or (cond b (Some n) None) (most + 1) ≤ most
        → unwrap_or (cond b (Some n) None) (most + 1) ≡ n
    by true k = refl
    by false k = absurd (omega (arith, k))

weight_less : (o : Object) → weight o ≤ written_bytes o
weight_less o = capped_less MAX_CATALOG_BYTES (written_bytes o)

weight_exact : (o : Object) → weight o ≤ MAX_CATALOG_BYTES → weight o ≡ written_bytes o
weight_exact o h = capped_exact MAX_CATALOG_BYTES (written_bytes o) h

pub weight_few : (o : Object) → weight o ≤ MAX_CATALOG_BYTES + 1
weight_few o = capped_few MAX_CATALOG_BYTES (written_bytes o)
  where
    capped_few : (most n : ℕ) → unwrap_or (up_to most n) (most + 1) ≤ most + 1
    capped_few most n = by (nat_le n most) refl
      where
        by : (b : Bool) → nat_le n most ≡ b → unwrap_or (cond b (Some n) None) (most + 1) ≤ most + 1
        by true e = grind (arith, nat_tests)
        by false e = omega arith

-- members weigh no more together than the heaviest so many times
total_few : (os : List Object) → total_weight os ≤ length os * (MAX_CATALOG_BYTES + 1)
total_few os = sum_by-le weight (MAX_CATALOG_BYTES + 1) os (λ k d below. weight_few _)

-- what as many members as are counted in 64 bits weigh together with another one fits 128 bits
pub room_for_one : (os : List Object) (count bytes one : ℕ) → count < 2 ^ 64 → length os ≡ count
    → bytes ≡ total_weight os → one ≤ MAX_CATALOG_BYTES + 1 → bytes + one < 2 ^ 128
room_for_one os count bytes one small many told few = let all = total_few os in
    omega (arith, all, small, many, told, few)

weighs_exact : (os : List Object) → total_weight os ≤ MAX_CATALOG_BYTES
    → total_weight os ≡ catalog_bytes os
weighs_exact [] h = refl
weighs_exact (o ∷ os) h =
    let weighed = sum_by-cons weight o os in
    let written = sum_by-cons written_bytes o os in
    let first = weight_exact o (omega (arith, h, weighed)) in
    let rest = weighs_exact os (omega (arith, h, weighed)) in
    omega (arith, weighed, written, first, rest)

passed_alike : (most a b : ℕ) → a ≤ b → (a ≤ most → a ≡ b) → nat_lt most a ≡ nat_lt most b
passed_alike most a b less same = by (nat_lt most a) refl
  where
    by : (x : Bool) → nat_lt most a ≡ x → x ≡ nat_lt most b
    by true e = grind (arith, nat_tests)
    by false e =
        let within : a ≤ most = grind (arith, nat_tests) in
        let is = same within in
        grind (arith, nat_tests)

-- members weigh more together than a catalog may have exactly where they have more bytes
pub above_alike : (os : List Object)
    → nat_lt MAX_CATALOG_BYTES (total_weight os) ≡ nat_lt MAX_CATALOG_BYTES (catalog_bytes os)
above_alike os = passed_alike MAX_CATALOG_BYTES (total_weight os) (catalog_bytes os)
    (sum_by-le-sum_by weight written_bytes os weight_less) (weighs_exact os)
