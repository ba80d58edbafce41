-- The digits at the front of a text, and the digits of a number.
use Rattle.std.proofs.Common.{◌≡◌, ℕ, suc, ◌+◌, ◌/◌, ◌%◌, ◌<◌, ◌≤◌, ◌^◌, Bool, true, false, cond}
use Rattle.std.proofs.Common.{nat_eq, List, [], ◌∷◌, ◌++◌, length, take, decimal, refl, ap, ◌∙◌}
use Rattle.std.proofs.Common.{arith}
use Rattle.std.specs.Char.{is_ascii_digit}
use Rattle.std.specs.List.{prefix_len, list_all}
use Rattle.std.proofs.lemmas.Bool.Decides.{nat_tests}
use Rattle.std.proofs.lemmas.Fmt.{decimal_by_steps}
use Rattle.std.proofs.lemmas.List.{length-append}
use Rattle.std.proofs.lemmas.List.Folds.{length-prefix_len, prefix_len-append}
use Rattle.std.proofs.lemmas.List.Sums.{fold-append}
use Rattle.exact_fraction.specs.Digits.{is_number, number_of, with_digit}

one_more : (b : Bool) (p : ℕ → Bool) (x : ℕ) (xs : List ℕ) → p x ≡ b
    → list_all p (take (prefix_len p xs) xs) ≡ true
    → list_all p (take (cond b (1 + prefix_len p xs) 0) (x ∷ xs)) ≡ true
one_more true p x xs passes rest =
    let next : 1 + prefix_len p xs ≡ suc (prefix_len p xs) = omega arith in
    rw (next, passes, rest) refl
one_more false p x xs fails rest = refl

-- the elements before the first that fails a test pass it
list_all-prefix : (p : ℕ → Bool) (xs : List ℕ) → list_all p (take (prefix_len p xs) xs) ≡ true
list_all-prefix p [] = refl
list_all-prefix p (x ∷ xs) = one_more (p x) p x xs refl (list_all-prefix p xs)

-- the digits at the front of a text, where there are any, are a number
pub is_number-prefix : (text : List ℕ) → (prefix_len is_ascii_digit text ≡ 0 → ⊥)
    → is_number (take (prefix_len is_ascii_digit text) text) ≡ true
is_number-prefix text some =
    let test : nat_eq (prefix_len is_ascii_digit text) 0 ≡ false = grind (arith, nat_tests) in
    rw (length-prefix_len is_ascii_digit text, test, list_all-prefix is_ascii_digit text) refl

-- the digits of a number
pub record AreDigits (n : ℕ) (digits : List ℕ) : Type 0 where
  pub all : prefix_len is_ascii_digit digits ≡ length digits
  pub value : number_of digits ≡ n
  pub some : 0 < length digits

digit : (n : ℕ) → n < 10 → is_ascii_digit (48 + n) ≡ true
digit n small = grind (arith, nat_tests)

one : (n : ℕ) → n < 10 → AreDigits n ((48 + n) ∷ [])
one n small = record {
  all = rw (digit n small) refl;
  value = omega arith;
  some = omega arith;
}

more : (n : ℕ) (digits : List ℕ) → 10 ≤ n → AreDigits (n / 10) digits
    → AreDigits n (digits ++ ((48 + n % 10) ∷ []))
more n digits large before = record {
  all = prefix_len-append is_ascii_digit digits _
      ∙ rw (before.all, digit (n % 10) (omega arith))
      (let long = length-append digits ((48 + n % 10) ∷ []) in grind (arith, nat_tests));
  value = fold-append with_digit 0 digits _ ∙ ap (λ v. with_digit v (48 + n % 10)) before.value
      ∙ omega arith;
  some = omega (arith, length-append digits ((48 + n % 10) ∷ []));
}

-- the decimal writing of a number is its digits
pub decimal_are_digits : (n : ℕ) → n < 2 ^ 64 → AreDigits n (decimal n)
decimal_are_digits = decimal_by_steps AreDigits one more
