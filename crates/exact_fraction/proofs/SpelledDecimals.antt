use Rattle.std.proofs.Common.{◌≡◌, ℕ, zero, suc, ◌+◌, ◌-◌, ◌*◌, ◌/◌, ◌%◌, ◌^◌, ◌<◌, ◌≤◌, Bool, true}
use Rattle.std.proofs.Common.{◌==◌, IsTrue, List, [], ◌∷◌, ◌++◌, length, take, drop, get_or}
use Rattle.std.proofs.Common.{replicate, reverse, fold, decimal, refl, sym, ap, ◌∙◌, arith}
use Rattle.std.proofs.Common.{length-append, length-drop, not}
use Rattle.std.proofs.Math.Nat.{div-add-mod', div-le_self, mod-add-div, mod-lt, mod-mod, mod-one}
use Rattle.std.proofs.Math.Nat.{mul-le-mul_left, one-le-pow, pow-suc}
use Rattle.std.proofs.lemmas.Nat.{mod-mul-add}
use Rattle.std.proofs.lemmas.Fmt.{decimal_by_steps}
use Rattle.std.proofs.lemmas.List.{get_or-drop, get_or-reverse, length-replicate, take-append-drop}
use Rattle.std.proofs.lemmas.List.Folds.{list_all-append}
use Rattle.std.proofs.lemmas.List.Sums.{fold-append, list_all-from_AllPass, prefix_len_passes}
use Rattle.std.proofs.lemmas.List.Sums.{suffix_len-le-length}
use Rattle.std.proofs.lemmas.Bool.Decides.{nat_tests}
use Rattle.std.specs.Char.{is_ascii_digit}
use Rattle.std.specs.List.{list_all, suffix_len}
use Rattle.slo_limits.specs.declared.TheConstants.{MAX_DECIMAL}
use Rattle.exact_fraction.proofs.BoolFacts.{both-true, true-both, same}
use Rattle.exact_fraction.specs.Digits.{is_number, number_of, with_digit}
use Rattle.exact_fraction.specs.Decimal.{StandsForBillionths}
use Rattle.exact_fraction.specs.DecimalText.{decimal_text, last_digits, without_last_zeros}

low-digit : (c : ℕ) → is_ascii_digit c ≡ true → c < 128
low-digit c h = grind (arith, nat_tests)

-- digits are ASCII
pub ascii-digits : (xs : List ℕ) → IsTrue (list_all is_ascii_digit xs) → (i : ℕ)
    → get_or xs i 0 < 128
ascii-digits [] h i = omega arith
ascii-digits (x ∷ xs) h zero = low-digit x (both-true _ _ h).0
ascii-digits (x ∷ xs) h (suc i) = ascii-digits xs (both-true _ _ h).1 i

digit-byte : (d : ℕ) → d < 10 → is_ascii_digit (48 + d) ≡ true
digit-byte d h = grind (arith, nat_tests)

last-digits : (k n : ℕ) → IsTrue (list_all is_ascii_digit (last_digits k n))
last-digits zero n = refl
last-digits (suc k) n = true-both _ _
    (digit-byte (n / 10 ^ k % 10) (mod-lt (n / 10 ^ k) (omega arith))) (last-digits k n)

taken-digits : (k : ℕ) (xs : List ℕ) → IsTrue (list_all is_ascii_digit xs)
    → IsTrue (list_all is_ascii_digit (take k xs))
taken-digits zero xs h = refl
taken-digits (suc k) [] h = refl
taken-digits (suc k) (x ∷ xs) h =
    true-both _ _ (both-true _ _ h).0 (taken-digits k xs (both-true _ _ h).1)

pub trimmed-digits : (k n : ℕ)
    → IsTrue (list_all is_ascii_digit (without_last_zeros (last_digits k n)))
trimmed-digits k n = taken-digits _ (last_digits k n) (last-digits k n)

-- ---- what is written is read back

zeros-worth : (z a : ℕ) → fold with_digit a (replicate z 48) ≡ a * 10 ^ z
zeros-worth zero a = omega arith
zeros-worth (suc z) a = zeros-worth z (a * 10 + 0)
    ∙ (let tens = pow-suc 10 z in rw tens (omega arith))

place-parts : (n p q r d e : ℕ) → r + p * q ≡ n → d + 10 * e ≡ q → n ≡ e * (p * 10) + (p * d + r)
place-parts n p q r d e hn hq = rw (sym hn, sym hq) (omega arith)

place-below : (p d r : ℕ) → r < p → d < 10 → p * d + r < p * 10
place-below p d r hr hd =
    let nine : d ≤ 9 = omega arith in
    let most = mul-le-mul_left p nine in
    omega arith

-- one more digit of a remainder
digit-more : (n p : ℕ) → 0 < p → n % (p * 10) ≡ p * (n / p % 10) + n % p
digit-more n p h =
    ap (λ m. m % (p * 10)) (place-parts n p (n / p) (n % p) (n / p % 10) (n / p / 10)
    (mod-add-div n p) (mod-add-div (n / p) 10))
    ∙ mod-mul-add (n / p / 10) (p * 10) (p * (n / p % 10) + n % p)
    (place-below p (n / p % 10) (n % p) (mod-lt n h) (mod-lt (n / p) (omega arith)))

digit-added : (a d p r m s : ℕ) → s ≡ p * 10 → m ≡ p * d + r
    → (a * 10 + (48 + d - 48)) * p + r ≡ a * s + m
digit-added a d p r m s hs hm =
    let same : 48 + d - 48 ≡ d = omega arith in
    rw (same, hs, hm) (omega arith)

last-worth : (k n a : ℕ) → fold with_digit a (last_digits k n) ≡ a * 10 ^ k + n % 10 ^ k
last-worth zero n a = let none = mod-one n in omega (arith, none)
last-worth (suc k) n a =
    let tens = pow-suc 10 k in
    let p : ℕ = 10 ^ k in
    last-worth k n (a * 10 + (48 + n / p % 10 - 48))
    ∙ digit-added a (n / p % 10) p (n % p) (n % 10 ^ suc k) (10 ^ suc k) tens
    (ap (λ s. n % s) tens ∙ digit-more n p (one-le-pow k 10 (omega arith)))

all-zeros : (xs : List ℕ) → IsTrue (list_all (λ d. d == 48) xs) → xs ≡ replicate (length xs) 48
all-zeros [] h = refl
all-zeros (x ∷ xs) h =
    ap (λ b. b ∷ xs) (same x 48 (both-true _ _ h).0)
    ∙ ap (λ l. 48 ∷ l) (all-zeros xs (both-true _ _ h).1)

abbrev is_zero : ℕ → Bool
is_zero digit = digit == 48

zeros-last : (xs : List ℕ) → IsTrue (list_all is_zero (drop (length xs - suffix_len is_zero xs) xs))
zeros-last xs =
    let zeros = suffix_len is_zero xs in
    let kept = length xs - zeros in
    let most : zeros ≤ length xs = suffix_len-le-length is_zero xs in
    list_all-from_AllPass
    is_zero
    (drop kept xs)
    (λ k d h.
    let rest = length-drop kept xs in
    let inside : kept + k < length xs = omega arith in
    let j = length xs - 1 - (kept + k) in
    let low : j < zeros = omega arith in
    let within : j < length xs = omega arith in
    let back : kept + k ≡ length xs - 1 - j = omega arith in
    ap is_zero (get_or-drop kept xs k d)
    ∙ ap (λ i. is_zero (get_or xs i d)) back
    ∙ ap is_zero (sym (get_or-reverse xs j d within))
    ∙ prefix_len_passes is_zero (reverse xs) j d low)

zeros-split : (xs : List ℕ) → xs ≡ without_last_zeros xs ++ replicate (suffix_len is_zero xs) 48
zeros-split xs =
    let zeros = suffix_len is_zero xs in
    let kept = length xs - zeros in
    let most : zeros ≤ length xs = suffix_len-le-length is_zero xs in
    let rest = length-drop kept xs in
    let count : length (drop kept xs) ≡ zeros = omega arith in
    sym (take-append-drop kept xs)
    ∙ ap (λ l. take kept xs ++ l)
    (all-zeros (drop kept xs) (zeros-last xs) ∙ ap (λ n. replicate n 48) count)

trimmed-length : (xs : List ℕ) → length xs ≡ length (without_last_zeros xs) + suffix_len is_zero xs
trimmed-length xs =
    let zeros = suffix_len is_zero xs in
    ap length (zeros-split xs)
    ∙ length-append (without_last_zeros xs) (replicate zeros 48)
    ∙ ap (λ n. length (without_last_zeros xs) + n) (length-replicate zeros 48)

trimmed-worth : (xs : List ℕ) → number_of (without_last_zeros xs)
    * 10 ^ (length xs - length (without_last_zeros xs)) ≡ number_of xs
trimmed-worth xs =
    let zeros = suffix_len is_zero xs in
    let all = trimmed-length xs in
    let left : length xs - length (without_last_zeros xs) ≡ zeros = omega arith in
    ap (λ k. number_of (without_last_zeros xs) * 10 ^ k) left
    ∙ sym (zeros-worth zeros (number_of (without_last_zeros xs)))
    ∙ sym (fold-append with_digit 0 (without_last_zeros xs) (replicate zeros 48))
    ∙ ap number_of (sym (zeros-split xs))

-- a text of digits, and the number that it stands for
record Spells (n : ℕ) (text : List ℕ) : Type 0 where
  number : IsTrue (is_number text)
  worth : number_of text ≡ n

not-none : (m : ℕ) → not (m + 1 == 0) ≡ true
not-none m = grind (arith, nat_tests)

spells-digit : (n : ℕ) → n < 10 → Spells n ((48 + n) ∷ [])
spells-digit n h = record {
  number = true-both _ _ (digit-byte n h) refl;
  worth = omega arith;
}

spells-more : (n : ℕ) (ds : List ℕ) → 10 ≤ n → Spells (n / 10) ds
    → Spells n (ds ++ ((48 + n % 10) ∷ []))
spells-more n ds h s =
    let last = 48 + n % 10 in
    let parts = div-add-mod' n 10 in
    let digit : is_ascii_digit last ≡ true = digit-byte (n % 10) (mod-lt n (omega arith)) in
    let before = s.worth in
    record {
      number =
          true-both
          _
          _
          (ap (λ k. not (k == 0)) (length-append ds (last ∷ [])) ∙ not-none (length ds))
          (list_all-append is_ascii_digit ds (last ∷ [])
          ∙ true-both _ _ (both-true _ _ s.number).1 (true-both _ _ digit refl));
      worth = fold-append with_digit 0 ds (last ∷ []) ∙ omega (arith, before, parts);
    }

spells-decimal : (n : ℕ) → n < 2 ^ 64 → Spells n (decimal n)
spells-decimal = decimal_by_steps Spells spells-digit spells-more

-- what `write_decimal` appends is a decimal text, and it stands for the value
pub spelled-reads : (n : ℕ) → n ≤ MAX_DECIMAL → StandsForBillionths (decimal_text n) n
spelled-reads n h =
    let whole = n / 1000000000 in
    let rest = n % 1000000000 in
    let kept = without_last_zeros (last_digits 9 rest) in
    let less = div-le_self n 1000000000 in
    let spelled = spells-decimal whole (omega arith) in
    let all : 9 ≡ length kept + suffix_len is_zero (last_digits 9 rest) =
    trimmed-length (last_digits 9 rest) in
    let parts = div-add-mod' n 1000000000 in
    let small : rest % 1000000000 ≡ rest = mod-mod n 1000000000 in
    let worth : number_of kept * 10 ^ (9 - length kept) ≡ rest =
    trimmed-worth (last_digits 9 rest) ∙ last-worth 9 rest 0 ∙ (omega (arith, small)) in
    let before = spelled.worth in (
      decimal whole,
      (
        kept,
        (
          record {
            is_decimal = record {
              whole_digits = spelled.number;
              decimal_digits = trimmed-digits 9 rest;
              form = refl;
            };
            few = omega arith;
          },
          omega (arith, before, worth, parts),
          h,
        ),
      ),
    )
