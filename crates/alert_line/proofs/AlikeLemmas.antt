-- Bytes that are alike, and what all their places keep.
use Rattle.std.proofs.Common.{◌≡◌, ℕ, zero, suc, ◌+◌, ◌-◌, ◌*◌, ◌/◌, ◌%◌, ◌<◌, ◌≤◌, ◌==◌, Bool}
use Rattle.std.proofs.Common.{true, false, refl, arith, ap, sym, ◌∙◌, List, Some}
use Rattle.std.proofs.Common.{drop, get_or, get_or-drop, get_or-take, slice_index, take}
use Rattle.std.specs.List.{prefix_len}
use Rattle.std.proofs.lemmas.Bool.Decides.{nat_tests}
use Rattle.std.proofs.lemmas.List.Sums.{prefix_len_passes}
use Rattle.alert_line.specs.Minutes.{bits_at, byte_of, kept_at, verdict_of}

same-number : (n m : ℕ) → (n == m) ≡ true → n ≡ m
same-number n m h = grind (arith, nat_tests)

-- each place of such a byte keeps the same
all-places : (holds : Bool) (place : ℕ) → place < 4
    → verdict_of (bits_at (byte_of holds) place) ≡ Some holds
all-places true zero h = refl
all-places true (suc zero) h = refl
all-places true (suc (suc zero)) h = refl
all-places true (suc (suc (suc zero))) h = refl
all-places false zero h = refl
all-places false (suc zero) h = refl
all-places false (suc (suc zero)) h = refl
all-places false (suc (suc (suc zero))) h = refl
all-places holds (suc (suc (suc (suc n)))) h = absurd (omega (arith, h))

-- so it is over bytes that are alike
pub kept-alike : (bytes : List ℕ) (first end count slot : ℕ) (holds : Bool)
    → count ≡ prefix_len (λ other. other == byte_of holds) (take (end - first) (drop first bytes))
    → first + count ≤ end → 4 * first ≤ slot → slot < 4 * first + 4 * count
    → kept_at bytes slot ≡ Some holds
kept-alike bytes first end count slot holds is within low high =
    ap (λ (byte : ℕ). verdict_of (bits_at byte (slot % 4))) here
    ∙ all-places holds (slot % 4) (omega arith)
  where
    k : ℕ
    k = slot / 4 - first

    less : k < count
    less = omega (arith, low, high)

    part : List ℕ
    part = take (end - first) (drop first bytes)

    alike : get_or part k 0 ≡ byte_of holds
    alike = same-number (get_or part k 0) (byte_of holds)
        (prefix_len_passes (λ other. other == byte_of holds) part k 0 (omega (arith, less, is)))

    there : first + k ≡ slot / 4
    there = omega (arith, low)

    here : slice_index bytes (slot / 4) ≡ byte_of holds
    here =
        ap (λ (n : ℕ). get_or bytes n 0) (sym there) ∙ sym (get_or-drop first bytes k 0)
        ∙ sym (get_or-take (end - first) (drop first bytes) k 0 (omega (arith, less, within)))
        ∙ alike
