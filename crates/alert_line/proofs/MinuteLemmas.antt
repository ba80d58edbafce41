-- What a write of two bits changes.
use Rattle.std.proofs.Common.{bit_and, ◌^◌, ◌≡◌, ◌≢◌, ◌⊎◌, ℕ, zero, suc, ◌+◌, ◌*◌, ◌/◌, ◌%◌, ◌<◌}
use Rattle.std.proofs.Common.{◌≤◌, ◌==◌, ◌&&◌, ◌||◌, nat_eq, nat_le, nat_lt, Bool, true, false, inl}
use Rattle.std.proofs.Common.{inr, List, length, Option, None, refl, sym, ap, subst, ◌∙◌, arith}
use Rattle.std.proofs.Common.{slice_index, slice_index_or, slice_set, if◌then◌else◌, take}
use Rattle.std.proofs.Common.{get_or-take, length-take}
use Rattle.std.proofs.lemmas.Bool.Decides.{eqb_tells, leb_tells, nat_tests}
use Rattle.std.proofs.lemmas.List.{get_or-set_same, get_or-set_other}
use Rattle.std.proofs.lemmas.Nat.{and_mask}
use Rattle.std.proofs.Math.ListN.{get_or-eq_default}
use Rattle.alert_line.specs.Minutes.{bits_at, with_bits, verdict_of, kept_at, Forgets}

bits-here : (byte place bits : ℕ) → place < 4 → bits < 4
    → bits_at (with_bits byte place bits) place ≡ bits
bits-here byte zero bits p b = omega arith
bits-here byte (suc zero) bits p b = omega arith
bits-here byte (suc (suc zero)) bits p b = omega arith
bits-here byte (suc (suc (suc zero))) bits p b = omega arith
bits-here byte (suc (suc (suc (suc n)))) bits p b = absurd (omega arith)

bits-other : (byte place other bits : ℕ) → place < 4 → other < 4 → bits < 4 → other ≢ place
    → bits_at (with_bits byte place bits) other ≡ bits_at byte other
bits-other byte zero zero bits p o b ne = absurd (ne refl)
bits-other byte zero (suc zero) bits p o b ne = omega arith
bits-other byte zero (suc (suc zero)) bits p o b ne = omega arith
bits-other byte zero (suc (suc (suc zero))) bits p o b ne = omega arith
bits-other byte (suc zero) zero bits p o b ne = omega arith
bits-other byte (suc zero) (suc zero) bits p o b ne = absurd (ne refl)
bits-other byte (suc zero) (suc (suc zero)) bits p o b ne = omega arith
bits-other byte (suc zero) (suc (suc (suc zero))) bits p o b ne = omega arith
bits-other byte (suc (suc zero)) zero bits p o b ne = omega arith
bits-other byte (suc (suc zero)) (suc zero) bits p o b ne = omega arith
bits-other byte (suc (suc zero)) (suc (suc zero)) bits p o b ne = absurd (ne refl)
bits-other byte (suc (suc zero)) (suc (suc (suc zero))) bits p o b ne = omega arith
bits-other byte (suc (suc (suc zero))) zero bits p o b ne = omega arith
bits-other byte (suc (suc (suc zero))) (suc zero) bits p o b ne = omega arith
bits-other byte (suc (suc (suc zero))) (suc (suc zero)) bits p o b ne = omega arith
bits-other byte (suc (suc (suc zero))) (suc (suc (suc zero))) bits p o b ne = absurd (ne refl)
bits-other byte (suc (suc (suc (suc n)))) other bits p o b ne = absurd (omega arith)
bits-other byte place (suc (suc (suc (suc n)))) bits p o b ne = absurd (omega arith)

-- a place that is written has the new bits, and each other place keeps its own
pub kept_at-put : (bytes : List ℕ) (slot bits : ℕ) → slot < 4 * length bytes → bits < 4 → (k : ℕ) →
    kept_at (slice_set bytes (slot / 4) (with_bits (slice_index bytes (slot / 4)) (slot % 4) bits))
    k ≡ (if k == slot then verdict_of bits else kept_at bytes k)
kept_at-put bytes slot bits within few k = by (eqb_tells k slot) (eqb_tells (k / 4) (slot / 4))
  where
    byte : ℕ
    byte = slice_index bytes (slot / 4)

    new : List ℕ
    new = slice_set bytes (slot / 4) (with_bits byte (slot % 4) bits)

    by : ((nat_eq k slot ≡ true) × (k ≡ slot)) ⊎ ((nat_eq k slot ≡ false) × (k ≢ slot)) →
        ((nat_eq (k / 4) (slot / 4) ≡ true) × (k / 4 ≡ slot / 4))
        ⊎ ((nat_eq (k / 4) (slot / 4) ≡ false) × (k / 4 ≢ slot / 4)) →
        kept_at new k ≡ (if k == slot then verdict_of bits else kept_at bytes k)
    by (inl same) q =
        rw same.0 (
        subst (λ j. kept_at new j ≡ verdict_of bits) (sym same.1)
        (ap (λ b. verdict_of (bits_at b (slot % 4)))
        (get_or-set_same bytes (slot / 4) (with_bits byte (slot % 4) bits) 0 (omega arith))
        ∙ ap verdict_of (bits-here byte (slot % 4) bits (omega arith) few))
        )
    by (inr other) (inl q) =
        rw other.0 (
        ap (λ b. verdict_of (bits_at b (k % 4))) (ap (λ j. slice_index new j) q.1
        ∙ get_or-set_same bytes (slot / 4) (with_bits byte (slot % 4) bits) 0 (omega arith))
        ∙ ap verdict_of (bits-other byte (slot % 4) (k % 4) bits (omega arith) (omega arith) few
        (λ e. other.1 (omega arith)))
        ∙ ap (λ j. verdict_of (bits_at (slice_index bytes j) (k % 4))) (sym q.1)
        )
    by (inr other) (inr q) =
        rw other.0 (ap (λ b. verdict_of (bits_at b (k % 4)))
        (get_or-set_other bytes (slot / 4) (k / 4) (with_bits byte (slot % 4) bits) 0 q.1))

-- nothing is forgotten where the range is empty
pub Forgets-none : (bytes : List ℕ) (from to : ℕ) → to ≤ from → Forgets bytes bytes from to
Forgets-none bytes from to le slot = grind (arith, nat_tests)

-- a place that is forgotten by one of two steps is forgotten by both
two-steps : (b1 b2 b3 : Bool) (b a c : Option Bool) → b3 ≡ (b1 || b2) → a ≡ (if b1 then None else b)
    → c ≡ (if b2 then None else a) → c ≡ (if b3 then None else b)
two-steps true true b3 b a c e p q = rw e q
two-steps true false b3 b a c e p q = rw e (q ∙ p)
two-steps false true b3 b a c e p q = rw e q
two-steps false false b3 b a c e p q = rw e (q ∙ p)

pub one-more : (slot from to : ℕ) → from ≤ to → (nat_le from slot && nat_lt slot (to + 1))
    ≡ ((nat_le from slot && nat_lt slot to) || (slot == to))
one-more slot from to le = grind (arith, nat_tests)

two-ranges : (slot from mid to : ℕ) → from ≤ mid → mid ≤ to → (nat_le from slot && nat_lt slot to)
    ≡ ((nat_le from slot && nat_lt slot mid) || (nat_le mid slot && nat_lt slot to))
two-ranges slot from mid to le le2 = grind (arith, nat_tests)

pub Forgets-next : (before at after : List ℕ) (from to : ℕ) → from ≤ to →
    Forgets before at from to →
    ((k : ℕ) → kept_at after k ≡ (if k == to then None else kept_at at k)) →
    Forgets before after from (to + 1)
Forgets-next before at after from to le first second slot =
    two-steps (nat_le from slot && nat_lt slot to) (slot == to) (nat_le from slot
    && nat_lt slot (to + 1)) (kept_at before slot) (kept_at at slot) (kept_at after slot)
    (one-more slot from to le) (first slot) (second slot)

pub Forgets-join : (before at after : List ℕ) (from mid to : ℕ) → from ≤ mid → mid ≤ to
    → Forgets before at from mid → Forgets at after mid to → Forgets before after from to
Forgets-join before at after from mid to le le2 first second slot =
    two-steps (nat_le from slot && nat_lt slot mid) (nat_le mid slot && nat_lt slot to) (nat_le from
    slot && nat_lt slot to) (kept_at before slot) (kept_at at slot) (kept_at after slot)
    (two-ranges slot from mid to le le2) (first slot) (second slot)

nothing-kept : (place : ℕ) → place < 4 → bits_at 0 place ≡ 0
nothing-kept zero p = refl
nothing-kept (suc zero) p = refl
nothing-kept (suc (suc zero)) p = refl
nothing-kept (suc (suc (suc zero))) p = refl
nothing-kept (suc (suc (suc (suc n)))) p = absurd (omega arith)

-- nothing is kept behind the last byte
pub kept_at-beyond : (bytes : List ℕ) (slot : ℕ) → 4 * length bytes ≤ slot
    → kept_at bytes slot ≡ None
kept_at-beyond bytes slot le =
    ap (λ b. verdict_of (bits_at b (slot % 4)))
    (get_or-eq_default bytes 0 (few slot (length bytes) le))
    ∙ ap verdict_of (nothing-kept (slot % 4) (omega arith))
  where
    few : (slot n : ℕ) → 4 * n ≤ slot → n ≤ slot / 4
    few slot n le = omega arith

-- bytes of zeros behind the others keep nothing
pub kept_at-lengthened : (before after : List ℕ) (count : ℕ) → length before ≤ count →
    length after ≡ count →
    ((k d : ℕ) → k < count → k < length before
    → slice_index_or after k d ≡ slice_index_or before k d) →
    ((k d : ℕ) → length before ≤ k → k < count → slice_index_or after k d ≡ 0) →
    (slot : ℕ) → kept_at after slot ≡ kept_at before slot
kept_at-lengthened before after count more len old new slot =
    ap (λ b. verdict_of (bits_at b (slot % 4)))
    (same (leb_tells (suc (slot / 4)) (length before)) (leb_tells (suc (slot / 4)) count))
  where
    at : ℕ
    at = slot / 4

    same : ((nat_lt at (length before) ≡ true) × (suc at ≤ length before))
        ⊎ ((nat_lt at (length before) ≡ false) × (length before < suc at)) →
        ((nat_lt at count ≡ true) × (suc at ≤ count))
        ⊎ ((nat_lt at count ≡ false) × (count < suc at)) →
        slice_index after at ≡ slice_index before at
    same (inl a) b = old at 0 (omega (arith, a.1, more)) (omega (arith, a.1))
    same (inr a) (inl b) =
        let past : length before ≤ at = omega (arith, a.1) in
        new at 0 past (omega (arith, b.1)) ∙ sym (get_or-eq_default before 0 past)
    same (inr a) (inr b) =
        let past : length before ≤ at = omega (arith, a.1) in
        let past2 : length after ≤ at = omega (arith, b.1, len) in
        get_or-eq_default after 0 past2 ∙ sym (get_or-eq_default before 0 past)

below-both : (from slot n m : ℕ) → slot < n → slot < m →
    (nat_le from slot && nat_lt slot n) ≡ (nat_le from slot && nat_lt slot m)
below-both from slot n m a b = grind (arith, nat_tests)

inside : (from slot n : ℕ) → from ≤ slot → slot < n → (nat_le from slot && nat_lt slot n) ≡ true
inside from slot n a b = grind (arith, nat_tests)

-- where the bytes end earlier, all behind is forgotten
pub Forgets-cut : (before at after : List ℕ) (from end : ℕ) → from ≤ 4 * end →
    Forgets before at from (4 * end) → length at ≡ length before → after ≡ take end at →
    Forgets before after from (4 * length before)
Forgets-cut before at after from end le first same cut slot =
    ap (λ (l : List ℕ). kept_at l slot) cut ∙ by (leb_tells (suc (slot / 4)) end)
    (leb_tells (suc slot) (4 * length before))
  where
    part : List ℕ
    part = take end at

    gone : Option Bool
    gone = if nat_le from slot && nat_lt slot (4 * length before) then None
        else kept_at before slot

    none : (b : Bool) (o : Option Bool) → o ≡ None → None ≡ (if b then None else o)
    none true o e = refl
    none false o e = sym e

    here : slot / 4 < end → kept_at part slot ≡ kept_at at slot
    here less = ap (λ b. verdict_of (bits_at b (slot % 4))) (get_or-take end at (slot / 4) 0 less)

    behind : end ≤ slot / 4 → kept_at part slot ≡ None
    behind past =
        let short : length part ≤ slot / 4 = omega (arith, past, length-take end at) in
        ap (λ b. verdict_of (bits_at b (slot % 4))) (get_or-eq_default part 0 short)
        ∙ ap verdict_of (nothing-kept (slot % 4) (omega arith))

    by : ((nat_lt (slot / 4) end ≡ true) × (suc (slot / 4) ≤ end))
        ⊎ ((nat_lt (slot / 4) end ≡ false) × (end < suc (slot / 4))) →
        ((nat_lt slot (4 * length before) ≡ true) × (suc slot ≤ 4 * length before))
        ⊎ ((nat_lt slot (4 * length before) ≡ false) × (4 * length before < suc slot)) →
        kept_at part slot ≡ gone
    by (inl a) (inl b) =
        here (omega (arith, a.1)) ∙ first slot
        ∙ ap (λ (q : Bool). if q then None else kept_at before slot)
        (below-both from slot (4 * end) (4 * length before) (omega (arith, a.1))
        (omega (arith, b.1)))
    by (inr a) (inl b) =
        behind (omega (arith, a.1)) ∙ ap (λ (q : Bool). if q then None else kept_at before slot)
        (sym (inside from slot (4 * length before) (omega (arith, a.1, le)) (omega (arith, b.1))))
    by (inl a) (inr b) =
        let past : 4 * length at ≤ slot = omega (arith, b.1, same) in
        here (omega (arith, a.1)) ∙ kept_at-beyond at slot past
        ∙ none (nat_le from slot && nat_lt slot (4 * length before)) (kept_at before slot)
        (kept_at-beyond before slot (omega (arith, b.1)))
    by (inr a) (inr b) =
        behind (omega (arith, a.1))
        ∙ none (nat_le from slot && nat_lt slot (4 * length before)) (kept_at before slot)
        (kept_at-beyond before slot (omega (arith, b.1)))

-- whole bytes of zeros forget all their places
pub Forgets-bytes : (before after : List ℕ) (first end : ℕ) →
    ((at : ℕ) → slice_index after at ≡ (if nat_le first at && nat_lt at end then 0
    else slice_index before at)) → Forgets before after (4 * first) (4 * end)
Forgets-bytes before after first end each slot =
    ap (λ b. verdict_of (bits_at b (slot % 4))) (each (slot / 4))
    ∙ by (nat_le first (slot / 4) && nat_lt (slot / 4) end)
    (nat_le (4 * first) slot && nat_lt slot (4 * end)) (same slot first end)
  where
    same : (slot first end : ℕ) → (nat_le first (slot / 4) && nat_lt (slot / 4) end)
        ≡ (nat_le (4 * first) slot && nat_lt slot (4 * end))
    same slot first end = grind (arith, nat_tests)

    by : (b c : Bool) → b ≡ c
        → verdict_of (bits_at (if b then 0 else slice_index before (slot / 4)) (slot % 4))
        ≡ (if c then None else kept_at before slot)
    by true true e = ap verdict_of (nothing-kept (slot % 4) (omega arith))
    by false false e = refl
    by true false e = cc
    by false true e = cc

-- two bits by a shift and a mask
pub bits_at-shift : (byte place : ℕ) → place < 4
    → bit_and (byte / 2 ^ (2 * place)) 3 ≡ bits_at byte place
bits_at-shift byte zero p = and_mask (byte / 1) 2
bits_at-shift byte (suc zero) p = and_mask (byte / 4) 2
bits_at-shift byte (suc (suc zero)) p = and_mask (byte / 16) 2
bits_at-shift byte (suc (suc (suc zero))) p = and_mask (byte / 64) 2
bits_at-shift byte (suc (suc (suc (suc n)))) p = absurd (omega arith)
