-- The bytes of names, numbers and decimals, and how numbers and decimals are read.
use Rattle.std.proofs.Common.{◌≡◌, ◌∙◌, ◌<◌, ◌≤◌, ◌+◌, ◌/◌, ◌%◌, ◌^◌, ℕ, Bool, true, false}
use Rattle.std.proofs.Common.{cond}
use Rattle.std.proofs.Common.{zero, suc, not, List, [], ◌∷◌, ◌++◌, length, take}
use Rattle.std.proofs.Common.{Some, None, Ok}
use Rattle.std.proofs.Common.{decimal, option_and_then, refl, ap, subst, arith, take_all}
use Rattle.std.proofs.Common.{length-append, length-take, le-leb, ne_eqb, IsAscii}
use Rattle.std.specs.Prelude.{◌==◌, ◌||◌, nat_le}
use Rattle.std.specs.Char.{is_ascii_digit}
use Rattle.std.specs.List.{list_all, prefix_len}
use Rattle.std.specs.Result.{result_ok}
use Rattle.std.proofs.lemmas.Bool.{and_from, and_parts}
use Rattle.std.proofs.lemmas.Fmt.{length-decimal-le}
use Rattle.std.proofs.lemmas.List.Folds.{list_all-append}
use Rattle.slo_limits.specs.declared.TheConstants.{MAX_DECIMAL}
use Rattle.exact_fraction.specs.DecimalCuts.{decimal_by_cuts, decimal_of}
use Rattle.exact_fraction.specs.Decimal.{with_point}
use Rattle.exact_fraction.specs.DecimalText.{decimal_text, last_digits, without_last_zeros}
use Rattle.exact_fraction.specs.Digits.{at_most, digits_value, is_number, number_of, number_within}
use Rattle.exact_fraction.specs.InlineName.{has_name_length}
use Rattle.exact_fraction.specs.Label.{is_label, is_label_byte, label_of}
use Rattle.exact_fraction.specs.ZoneName.{is_zone_byte, is_zone_name}
use Rattle.exact_fraction.proofs.BoolFacts.{below}
use Rattle.exact_fraction.proofs.DecimalForm.{answers-by_cuts, answers-unique}
use Rattle.exact_fraction.proofs.SpelledDecimals.{spelled-reads, trimmed-digits}
use Rattle.slo_duration.proofs.DigitLemmas.{decimal_are_digits, is_number-prefix}

-- BYTES

-- bytes that pass one test pass another
pub all_also : (p q : ℕ → Bool) → ((b : ℕ) → p b ≡ true → q b ≡ true) → (xs : List ℕ)
    → list_all p xs ≡ true → list_all q xs ≡ true
all_also p q also [] all = refl
all_also p q also (x ∷ xs) all =
    let both = and_parts (p x) (list_all p xs) all in
    and_from (q x) (list_all q xs) (also x both.0) (all_also p q also xs both.1)

pub all_joined : (p : ℕ → Bool) (xs ys : List ℕ) → list_all p xs ≡ true → list_all p ys ≡ true
    → list_all p (xs ++ ys) ≡ true
all_joined p xs ys a b =
    list_all-append p xs ys ∙ and_from (list_all p xs) (list_all p ys) a b

pub label_zone : (b : ℕ) → is_label_byte b ≡ true → is_zone_byte b ≡ true
label_zone b h = ap (λ t. t || (b == 47) || (b == 43)) h

pub digit_label : (b : ℕ) → is_ascii_digit b ≡ true → is_label_byte b ≡ true
digit_label b h = grind (arith)

pub digit_zone : (b : ℕ) → is_ascii_digit b ≡ true → is_zone_byte b ≡ true
digit_zone b h = label_zone b (digit_label b h)

-- a byte of labels isn't one of other texts
pub not_mark : (mark b : ℕ) → is_label_byte mark ≡ false → is_label_byte b ≡ true → b ≡ mark → ⊥
not_mark mark b out h e = absurd (cc (ap is_label_byte e, h, out))

pub is_mark : (mark b : ℕ) → is_label_byte mark ≡ false → is_label_byte b ≡ true
    → (b == mark) ≡ false
is_mark mark b out h = ne_eqb b mark (not_mark mark b out h)

pub label_low : (b : ℕ) → is_label_byte b ≡ true → (32 ≤ b) × (b < 128)
label_low b h = (grind (arith), grind (arith))

zone_low : (b : ℕ) → is_zone_byte b ≡ true → b < 128
zone_low b h = grind (arith)

-- bytes of names are ASCII
pub zone_ascii : (xs : List ℕ) → list_all is_zone_byte xs ≡ true → IsAscii xs
zone_ascii [] all i = omega arith
zone_ascii (x ∷ xs) all zero =
    zone_low x (and_parts (is_zone_byte x) (list_all is_zone_byte xs) all).0
zone_ascii (x ∷ xs) all (suc i) =
    zone_ascii xs (and_parts (is_zone_byte x) (list_all is_zone_byte xs) all).1 i

-- NAMES

-- a name has 1 to 63 bytes
pub name_size : (name : List ℕ) → has_name_length name ≡ true
    → (1 ≤ length name) × (length name ≤ 63)
name_size name h =
    let both = and_parts (nat_le 1 (length name)) (nat_le (length name) 63) h in
    (below 1 (length name) both.0, below (length name) 63 both.1)

-- what a label is
pub record IsName (name : List ℕ) : Type 0 where
  pub size : (1 ≤ length name) × (length name ≤ 63)
  pub bytes : list_all is_zone_byte name ≡ true

pub label_name : (name : List ℕ) → is_label name ≡ true → IsName name
label_name name h =
    let both = and_parts (has_name_length name) (list_all is_label_byte name) h in
    record {
      size = name_size name both.0;
      bytes = all_also is_label_byte is_zone_byte label_zone name both.1;
    }

pub label_bytes : (name : List ℕ) → is_label name ≡ true → list_all is_label_byte name ≡ true
label_bytes name h = (and_parts (has_name_length name) (list_all is_label_byte name) h).1

pub label_read : (name : List ℕ) → is_label name ≡ true → label_of name ≡ Some name
label_read name h = ap (λ b. cond b (Some name) None) h

pub zone_name : (name : List ℕ) → is_zone_name name ≡ true → IsName name
zone_name name h =
    let both = and_parts (has_name_length name) (list_all is_zone_byte name) h in
    record { size = name_size name both.0; bytes = both.1 }

-- NUMBERS

pub decimal_some : (n : ℕ) → n < 2 ^ 64 → 0 < length (decimal n)
decimal_some n small = (decimal_are_digits n small).some

pub decimal_number : (n : ℕ) → n < 2 ^ 64 → is_number (decimal n) ≡ true
decimal_number n small =
    let ds = decimal_are_digits n small in
    let some : prefix_len is_ascii_digit (decimal n) ≡ 0 → ⊥ =
    λ z. (let a = ds.all in let s = ds.some in absurd (omega arith)) in
    let whole : take (prefix_len is_ascii_digit (decimal n)) (decimal n) ≡ decimal n =
    ap (λ (k : ℕ). take k (decimal n)) ds.all
    ∙ take_all (length (decimal n)) (decimal n) (omega arith) in
    subst (λ z. is_number z ≡ true) whole (is_number-prefix (decimal n) some)

pub decimal_all : (n : ℕ) → n < 2 ^ 64 → list_all is_ascii_digit (decimal n) ≡ true
decimal_all n small =
    (and_parts (not (length (decimal n) == 0)) (list_all is_ascii_digit (decimal n))
    (decimal_number n small)).1

pub decimal_label : (n : ℕ) → n < 2 ^ 64 → list_all is_label_byte (decimal n) ≡ true
decimal_label n small =
    all_also is_ascii_digit is_label_byte digit_label (decimal n) (decimal_all n small)

pub decimal_short : (n : ℕ) → n < 2 ^ 64 → length (decimal n) ≤ 20
decimal_short n small = length-decimal-le 20 n (omega arith) (omega arith) small

pub decimal_value : (n : ℕ) → n < 2 ^ 64 → digits_value (decimal n) ≡ Some n
decimal_value n small =
    ap (λ b. cond b (Some (number_of (decimal n))) None) (decimal_number n small)
    ∙ ap Some (decimal_are_digits n small).value

pub decimal_within : (most n : ℕ) → n < 2 ^ 64 → n ≤ most → number_within most (decimal n) ≡ Some n
decimal_within most n small fits = ap (option_and_then (at_most most)) (decimal_value n small)
    ∙ ap (λ b. cond b (Some n) None) (le-leb n most fits)

-- DECIMALS

point_label : (ds : List ℕ) → list_all is_ascii_digit ds ≡ true
    → list_all is_label_byte (with_point ds) ≡ true
point_label [] all = refl
point_label (d ∷ ds) all = all_also is_ascii_digit is_label_byte digit_label (d ∷ ds) all

point_size : (ds : List ℕ) → length (with_point ds) ≤ length ds + 1
point_size [] = omega arith
point_size (d ∷ ds) = omega arith

trimmed_size : (ds : List ℕ) → length (without_last_zeros ds) ≤ length ds
trimmed_size ds = omega (arith, length-take {A = ℕ})

whole_small : (v : ℕ) → v ≤ MAX_DECIMAL → v / 10 ^ 9 < 2 ^ 64
whole_small v h = omega arith

pub decimal_text_label : (v : ℕ) → v ≤ MAX_DECIMAL
    → list_all is_label_byte (decimal_text v) ≡ true
decimal_text_label v h =
    all_joined is_label_byte (decimal (v / 10 ^ 9))
    (with_point (without_last_zeros (last_digits 9 (v % 10 ^ 9))))
    (decimal_label (v / 10 ^ 9) (whole_small v h))
    (point_label (without_last_zeros (last_digits 9 (v % 10 ^ 9)))
    (trimmed-digits 9 (v % 10 ^ 9)))

pub decimal_text_size : (v : ℕ) → v ≤ MAX_DECIMAL
    → (0 < length (decimal_text v)) × (length (decimal_text v) ≤ 30)
decimal_text_size v h =
    let whole = decimal (v / 10 ^ 9) in
    let places = without_last_zeros (last_digits 9 (v % 10 ^ 9)) in
    let a = length-append whole (with_point places) in
    let b = decimal_some (v / 10 ^ 9) (whole_small v h) in
    let c = decimal_short (v / 10 ^ 9) (whole_small v h) in
    let d = point_size places in
    let e = trimmed_size (last_digits 9 (v % 10 ^ 9)) in
    let f : length (last_digits 9 (v % 10 ^ 9)) ≡ 9 = refl in
    (omega arith, omega arith)

pub decimal_text_reads : (v : ℕ) → v ≤ MAX_DECIMAL → decimal_of (decimal_text v) ≡ Some v
decimal_text_reads v h =
    ap result_ok (answers-unique (decimal_text v) (decimal_by_cuts (decimal_text v)) (Ok v)
    (answers-by_cuts (decimal_text v)) (spelled-reads v h))

pub not_empty : (xs : List ℕ) → 0 < length xs → (length xs == 0) ≡ false
not_empty xs some = ne_eqb (length xs) 0 (λ z. omega arith)
