-- The numbers of a line, digit by digit.
use Rattle.std.proofs.Common.{◌≡◌, ◌∙◌, ◌<◌, ◌≤◌, ◌+◌, ◌-◌, ◌*◌, ◌^◌, ◌++◌, ◌∷◌, ℕ, true, List, []}
use Rattle.std.proofs.Common.{ap, arith, drop, get_or, length, length-drop, refl, set, subst}
use Rattle.std.proofs.Common.{sym, take}
use Rattle.std.proofs.lemmas.Bool.Decides.{nat_tests}
use Rattle.std.proofs.lemmas.List.{get_or-drop, take_more, take_more_set}
use Rattle.std.proofs.lemmas.Grind.{pow_more}
use Rattle.std.proofs.lemmas.List.Folds.{list_all-append}
use Rattle.std.proofs.lemmas.List.Sums.{fold-append}
use Rattle.std.proofs.Math.Nat.{pow-le-pow_right}
use Rattle.std.specs.Char.{is_ascii_digit}
use Rattle.std.specs.List.{list_all}
use Rattle.exact_fraction.specs.Digits.{number_of, with_digit}
use Rattle.event_lines.specs.Lines.{AreNumbersAt, EndsNumber, IsNumberAt}
use Rattle.event_lines.specs.declared.number.Numbers.{Numbers}

-- these numbers stand one behind the other, with a comma behind each, before another place
abbrev pub AreRead : List ℕ → ℕ → List ℕ → ℕ → Type 0
AreRead text from [] next = next ≡ from
AreRead text from (value ∷ values) next =
    (between : ℕ) × IsNumberAt text from between 44 value × AreRead text between values next

-- one more number
pub read_more : (text : List ℕ) (from : ℕ) (values : List ℕ) (at next value : ℕ)
    → AreRead text from values at → IsNumberAt text at next 44 value
    → AreRead text from (values ++ value ∷ []) next
read_more text from [] at next value read number =
    (next, subst (λ (n : ℕ). IsNumberAt text n next 44 value) read number, refl)
read_more text from (first ∷ values) at next value read number =
    (read.0, read.1, read_more text read.0 values at next value read.2 number)

-- the digits from a place up to another are a number, which is known where they are few
pub record IsPart (text : List ℕ) (begin place value : ℕ) : Type 0 where
  pub within : begin ≤ place
  pub are : list_all is_ascii_digit (take (place - begin) (drop begin text)) ≡ true
  pub value_is : place - begin ≤ 18 → value ≡ number_of (take (place - begin) (drop begin text))
  pub small : place - begin ≤ 18 → value < 10 ^ (place - begin)

-- before its first digit
pub part_begins : (text : List ℕ) (begin : ℕ) → IsPart text begin begin 0
part_begins text begin =
    let none : begin - begin ≡ 0 = omega arith in
    record {
      within = omega arith;
      are = ap (λ (n : ℕ). list_all is_ascii_digit (take n (drop begin text))) none;
      value_is = λ few. sym (ap (λ (n : ℕ). number_of (take n (drop begin text))) none);
      small = λ few. subst (λ (n : ℕ). 0 < 10 ^ n) (sym none) (omega arith);
    }

-- the digits with one more
digits_more : (text : List ℕ) (begin place : ℕ) → begin ≤ place → place < length text
    → take (place + 1 - begin) (drop begin text)
    ≡ take (place - begin) (drop begin text) ++ get_or text place 0 ∷ []
digits_more text begin place within inside =
    let rest = drop begin text in
    let on : begin + (place - begin) ≡ place = omega (arith, within) in
    let next : place + 1 - begin ≡ place - begin + 1 = omega (arith, within) in
    let short : place - begin < length rest =
    omega (arith, within, inside, length-drop begin text) in
    ap (λ (n : ℕ). take n rest) next ∙ take_more rest (place - begin) 0 short
    ∙ ap (λ (byte : ℕ). take (place - begin) rest ++ byte ∷ [])
    (get_or-drop begin text (place - begin) 0 ∙ ap (λ (n : ℕ). get_or text n 0) on)

-- their number, and whether all are digits
digit_put : (digits : List ℕ) (byte : ℕ)
    → number_of (digits ++ byte ∷ []) ≡ with_digit (number_of digits) byte
digit_put digits byte = fold-append with_digit 0 digits (byte ∷ [])

digit_passes : (digits : List ℕ) (byte : ℕ) → list_all is_ascii_digit digits ≡ true
    → is_ascii_digit byte ≡ true → list_all is_ascii_digit (digits ++ byte ∷ []) ≡ true
digit_passes digits byte are is =
    list_all-append is_ascii_digit digits (byte ∷ []) ∙ grind (arith, nat_tests, are, is)

digit_small : (value byte k : ℕ) → value < 10 ^ k → is_ascii_digit byte ≡ true
    → with_digit value byte < 10 ^ (k + 1)
digit_small value byte k small is =
    let most : byte ≤ 57 = grind (arith, nat_tests) in
    let more : 10 ^ (k + 1) ≡ 10 ^ k * 10 = pow_more 10 k in
    omega (arith, most, more, small)

-- one more digit
pub digit_more : (text : List ℕ) (begin place value next : ℕ) → IsPart text begin place value
    → place < length text → is_ascii_digit (get_or text place 0) ≡ true
    → (value < 10 ^ 17 → next ≡ with_digit value (get_or text place 0))
    → IsPart text begin (place + 1) next
digit_more text begin place value next part inside is put =
    let byte = get_or text place 0 in
    let digits = take (place - begin) (drop begin text) in
    let more = digits_more text begin place part.within inside in
    let size : place + 1 - begin ≡ place - begin + 1 = omega (arith, part.within) in
    let exact : place + 1 - begin ≤ 18 → next ≡ with_digit value byte = λ few.
    (let fewer : place - begin ≤ 17 = omega (arith, few, part.within) in
    let power : 10 ^ (place - begin) ≤ 10 ^ 17 = pow-le-pow_right (omega arith) fewer in
    let small = part.small (omega (arith, fewer)) in
    put (omega (arith, small, power))) in
    record {
      within = omega (arith, part.within);
      are = ap (list_all is_ascii_digit) more ∙ digit_passes digits byte part.are is;
      value_is = λ few. exact few
          ∙ ap (λ (v : ℕ). with_digit v byte) (part.value_is (omega (arith, few, part.within)))
          ∙ sym (digit_put digits byte) ∙ ap number_of (sym more);
      small = λ few. subst (λ (v : ℕ). v < 10 ^ (place + 1 - begin)) (sym (exact few))
          (subst (λ (k : ℕ). with_digit value byte < 10 ^ k) (sym size)
          (digit_small value byte (place - begin) (part.small (omega (arith, few, part.within)))
          is));
    }

-- the byte behind its digits
pub number_ends : (text : List ℕ) (begin place value mark : ℕ) → IsPart text begin place value
    → place < length text → 0 < place - begin → place - begin ≤ 18 → get_or text place 0 ≡ mark
    → IsNumberAt text begin (place + 1) mark value
number_ends text begin place value mark part inside some few is =
    let on : begin + (place - begin) ≡ place = omega (arith, part.within) in
    record {
      digits = place - begin;
      some = some;
      inside = omega (arith, on, inside);
      behind = ap (λ (n : ℕ). get_or text n 0) on ∙ is;
      next_is = omega (arith, on);
      are = part.are;
      value_is = part.value_is few;
    }

-- one of the first three numbers
pub number_put : (text : List ℕ) (from : ℕ) (numbers : List ℕ) (count begin place value byte : ℕ)
    → AreRead text from (take count numbers) begin → IsPart text begin place value
    → EndsNumber (place - begin) count byte → get_or text place 0 ≡ byte → place < length text
    → count < length numbers → count < 3
    → AreRead text from (take (count + 1) (set numbers count value)) (place + 1)
number_put text from numbers count begin place value byte read part ends is inside within few =
    let comma : byte ≡ 44 = grind (arith, nat_tests, ends.mark, few) in
    subst (λ (values : List ℕ). AreRead text from values (place + 1))
    (sym (take_more_set numbers count value within))
    (read_more text from (take count numbers) begin (place + 1) value read
    (number_ends text begin place value 44 part inside ends.some ends.few (is ∙ comma)))

-- the numbers that were put, with the last one
abbrev pub with_last : List ℕ → ℕ → ℕ → Numbers
with_last numbers count value =
    let all = set numbers count value in
    record {
      minute = get_or all 0 0;
      revision = get_or all 1 0;
      good = get_or all 2 0;
      total = get_or all 3 0;
    }

-- the last of four
fourth_put : (text : List ℕ) (from : ℕ) (numbers : List ℕ) (begin place value byte : ℕ)
    → AreRead text from (take 3 numbers) begin → IsPart text begin place value
    → EndsNumber (place - begin) 3 byte → get_or text place 0 ≡ byte → place < length text
    → length numbers ≡ 4 → AreNumbersAt text from (place + 1) (with_last numbers 3 value)
fourth_put text from (a ∷ b ∷ c ∷ d ∷ []) begin place value byte read part ends is inside four =
    let feed : byte ≡ 10 = grind (arith, nat_tests, ends.mark) in
    let last = number_ends text begin place value 10 part inside ends.some ends.few (is ∙ feed) in
    record {
      second = read.0;
      third = read.2.0;
      fourth = read.2.2.0;
      minute = read.1;
      revision = read.2.1;
      good = read.2.2.1;
      total = subst (λ (n : ℕ). IsNumberAt text n (place + 1) 10 value) read.2.2.2 last;
    }
fourth_put text from _ begin place value byte read part ends is inside four = absurd (omega arith)

pub all_put : (text : List ℕ) (from : ℕ) (numbers : List ℕ) (count begin place value byte : ℕ)
    → count ≡ 3 → AreRead text from (take count numbers) begin → IsPart text begin place value
    → EndsNumber (place - begin) count byte → get_or text place 0 ≡ byte → place < length text
    → length numbers ≡ 4 → AreNumbersAt text from (place + 1) (with_last numbers count value)
all_put text from numbers count begin place value byte last read part ends is inside four =
    subst (λ (n : ℕ). AreNumbersAt text from (place + 1) (with_last numbers n value)) (sym last)
    (fourth_put text from numbers begin place value byte
    (subst (λ (n : ℕ). AreRead text from (take n numbers) begin) last read) part
    (subst (λ (n : ℕ). EndsNumber (place - begin) n byte) last ends) is inside four)
