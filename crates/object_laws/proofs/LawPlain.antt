-- Numbers, durations and words are written plain: as digits, letters and a point.
use Rattle.std.proofs.Common.{◌≡◌, ℕ, zero, suc, ◌*◌, ◌/◌, ◌%◌, ◌^◌, ◌≤◌, ◌<◌, Bool, true, false}
use Rattle.std.proofs.Common.{List, [], ◌∷◌, length, IsUtf8, refl, sym, ap, ◌∙◌, arith, decimal}
use Rattle.std.specs.Prelude.{◌&&◌, ◌||◌, ◌==◌, not, slice_index}
use Rattle.std.specs.Char.{is_ascii_digit}
use Rattle.std.specs.List.{list_all}
use Rattle.std.proofs.Math.Nat.{div-le_self}
use Rattle.std.proofs.lemmas.Bool.{false≢true, agree_below, agree_below_at}
use Rattle.std.proofs.lemmas.Bool.Decides.{nat_tests}
use Rattle.std.proofs.lemmas.List.Folds.{list_all-append}
use Rattle.std.proofs.lemmas.Str.{IsUtf8-from_ascii}
use Rattle.yaml_terms.specs.Block.{is_blank_byte}
use Rattle.yaml_terms.specs.Flow.{is_indicator, is_soft_indicator}
use Rattle.yaml_terms.specs.Line.{is_control, has_control, is_plain_start, plain_len}
use Rattle.yaml_terms.specs.SpellingFits.{is_letter, is_plain}
use Rattle.exact_fraction.specs.Decimal.{with_point}
use Rattle.exact_fraction.specs.DecimalText.{decimal_text, last_digits, without_last_zeros}
use Rattle.exact_fraction.proofs.SpelledDecimals.{trimmed-digits}
use Rattle.slo_duration.specs.Unit.{letter, unit_minutes}
use Rattle.slo_duration.specs.Writing.{duration_text}
use Rattle.slo_duration.specs.declared.unit.Unit.{Unit as TimeUnit}
use Rattle.slo_duration.specs.declared.unit.Unit.TheVariants as units
use Rattle.slo_duration.specs.declared.duration.Duration.{Duration}
use Rattle.slo_duration.proofs.DigitLemmas.{decimal_are_digits}
use Rattle.object_laws.proofs.LawFields.{and_both, and_left, and_right, or_left}
use Rattle.object_laws.proofs.LawNumbers.{digits_number}

-- a digit, a letter or a point
abbrev pub is_simple : ℕ → Bool
is_simple c = is_ascii_digit c || (is_letter c || c == 46)

abbrev is_special : ℕ → Bool
is_special c =
    is_blank_byte c || (is_indicator c || (is_soft_indicator c || (c == 58 || is_control c)))

none_special : agree_below (λ c. is_simple c && is_special c) (λ c. false) 123 ≡ true
none_special = refl

simple_low : (c : ℕ) → is_simple c ≡ true → c < 123
simple_low c e = grind (arith, nat_tests)

not_special : (c : ℕ) → is_simple c ≡ true → is_special c ≡ false
not_special c e = by (is_special c) (ap (λ (b : Bool). b && is_special c) (sym e) ∙ agree_below_at
    (λ c. is_simple c && is_special c) (λ c. false) 123 c none_special (simple_low c e))
  where
    by : (b : Bool) → b ≡ false → b ≡ false
    by b f = f

none_left : (x y : Bool) → (x || y) ≡ false → x ≡ false
none_left true y e = e
none_left false y e = refl

none_right : (x y : Bool) → (x || y) ≡ false → y ≡ false
none_right true y e = absurd (false≢true (sym e))
none_right false y e = e

record IsSimple (c : ℕ) : Type 0 where
  blank : is_blank_byte c ≡ false
  indicator : is_indicator c ≡ false
  soft : is_soft_indicator c ≡ false
  colon : (c == 58) ≡ false
  control : is_control c ≡ false

simple_byte : (c : ℕ) → is_simple c ≡ true → IsSimple c
simple_byte c e = let a = not_special c e in
    let b = none_right (is_blank_byte c) _ a in
    let s = none_right (is_indicator c) _ b in
    let k = none_right (is_soft_indicator c) _ s in
    record {
      blank = none_left (is_blank_byte c) _ a;
      indicator = none_left (is_indicator c) _ b;
      soft = none_left (is_soft_indicator c) _ s;
      colon = none_left (c == 58) _ k;
      control = none_right (c == 58) _ k;
    }

all_plain : (cs : List ℕ) → list_all is_simple cs ≡ true → plain_len cs ≡ length cs
all_plain [] e = refl
all_plain (c ∷ cs) e = let s = simple_byte c (and_left (is_simple c) (list_all is_simple cs) e) in
    rw (s.colon, s.blank, all_plain cs (and_right (is_simple c) (list_all is_simple cs) e)) refl

no_control : (cs : List ℕ) → list_all is_simple cs ≡ true → has_control cs ≡ false
no_control [] e = refl
no_control (c ∷ cs) e = let s = simple_byte c (and_left (is_simple c) (list_all is_simple cs) e) in
    rw (s.control, no_control cs (and_right (is_simple c) (list_all is_simple cs) e)) refl

last_simple : (c : ℕ) (cs : List ℕ) → list_all is_simple (c ∷ cs) ≡ true
    → is_simple (slice_index (c ∷ cs) (length cs)) ≡ true
last_simple c [] e = and_left (is_simple c) true e
last_simple c (d ∷ ds) e =
    last_simple d ds (and_right (is_simple c) (list_all is_simple (d ∷ ds)) e)

length_self : (cs : List ℕ) → (length cs == length cs) ≡ true
length_self cs = grind (arith, nat_tests)

pub simple_plain : (cs : List ℕ) → list_all is_simple cs ≡ true → is_plain cs ≡ true
simple_plain [] e = refl
simple_plain (c ∷ cs) e =
    let s = simple_byte c (and_left (is_simple c) (list_all is_simple cs) e) in
    let l = simple_byte (slice_index (c ∷ cs) (length cs)) (last_simple c cs e) in
    let start : is_plain_start c cs ≡ true = rw (s.indicator, s.soft) refl in
    let whole : (plain_len (c ∷ cs) == length (c ∷ cs)) ≡ true =
    ap (λ n. n == length (c ∷ cs)) (all_plain (c ∷ cs) e) ∙ length_self (c ∷ cs) in
    and_both (not (is_blank_byte c)) _ (ap not s.blank)
    (and_both (is_plain_start c cs) _ start
    (and_both (plain_len (c ∷ cs) == length (c ∷ cs)) _ whole
    (and_both (not (is_blank_byte (slice_index (c ∷ cs) (length cs)))) _ (ap not l.blank)
    (ap not (no_control (c ∷ cs) e)))))

simple_ascii : (cs : List ℕ) → list_all is_simple cs ≡ true → (i : ℕ) → slice_index cs i < 128
simple_ascii [] e i = omega arith
simple_ascii (c ∷ cs) e zero = let low =
    simple_low c (and_left (is_simple c) (list_all is_simple cs) e) in omega arith
simple_ascii (c ∷ cs) e (suc i) =
    simple_ascii cs (and_right (is_simple c) (list_all is_simple cs) e) i

-- a text that may be written plain
abbrev pub IsWritten : List ℕ → Type 0
IsWritten text = IsUtf8 text × (is_plain text ≡ true)

pub simple_written : (cs : List ℕ) → list_all is_simple cs ≡ true → IsWritten cs
simple_written cs e = (IsUtf8-from_ascii cs (simple_ascii cs e), simple_plain cs e)

digits_simple : (cs : List ℕ) → list_all is_ascii_digit cs ≡ true → list_all is_simple cs ≡ true
digits_simple [] e = refl
digits_simple (c ∷ cs) e =
    and_both (is_simple c) (list_all is_simple cs) (or_left (is_ascii_digit c)
    (is_letter c || c == 46) (and_left (is_ascii_digit c) (list_all is_ascii_digit cs) e))
    (digits_simple cs (and_right (is_ascii_digit c) (list_all is_ascii_digit cs) e))

decimal_simple : (n : ℕ) → n < 2 ^ 64 → list_all is_simple (decimal n) ≡ true
decimal_simple n h = digits_simple (decimal n) (and_right (not (length (decimal n) == 0))
    (list_all is_ascii_digit (decimal n)) (digits_number n (decimal n) (decimal_are_digits n h)))

pub width_written : (n : ℕ) → n ≤ 60 → IsWritten (decimal n)
width_written n h = simple_written (decimal n) (decimal_simple n (omega arith))

point_simple : (cs : List ℕ) → list_all is_simple cs ≡ true
    → list_all is_simple (with_point cs) ≡ true
point_simple [] e = refl
point_simple (c ∷ cs) e = e

pub decimal_written : (n : ℕ) → n ≤ 10 ^ 18 → IsWritten (decimal_text n)
decimal_written n h =
    let less = div-le_self n 1000000000 in
    let small : n / 10 ^ 9 < 2 ^ 64 = omega arith in
    let digits = without_last_zeros (last_digits 9 (n % 10 ^ 9)) in
    simple_written (decimal_text n)
    (list_all-append is_simple (decimal (n / 10 ^ 9)) (with_point digits)
    ∙ and_both (list_all is_simple (decimal (n / 10 ^ 9)))
    (list_all is_simple (with_point digits)) (decimal_simple (n / 10 ^ 9) small)
    (point_simple digits (digits_simple digits (trimmed-digits 9 (n % 10 ^ 9)))))

letter_simple : (u : TimeUnit) → list_all is_simple (letter u ∷ []) ≡ true
letter_simple units.Minute = refl
letter_simple units.Hour = refl
letter_simple units.Day = refl
letter_simple units.Week = refl
letter_simple units.Month = refl
letter_simple units.Quarter = refl
letter_simple units.Year = refl

count_low : (count : ℕ) (u : TimeUnit) → count * unit_minutes u ≤ 4_294_967_295 → count < 2 ^ 64
count_low count units.Minute h = omega arith
count_low count units.Hour h = omega arith
count_low count units.Day h = omega arith
count_low count units.Week h = omega arith
count_low count units.Month h = omega arith
count_low count units.Quarter h = omega arith
count_low count units.Year h = omega arith

pub duration_plain : (d : Duration) → IsWritten (duration_text d)
duration_plain d = simple_written (duration_text d)
    (list_all-append is_simple (decimal d.count) (letter d.unit ∷ [])
    ∙ and_both (list_all is_simple (decimal d.count)) (list_all is_simple (letter d.unit ∷ []))
    (decimal_simple d.count (count_low d.count d.unit d.fits)) (letter_simple d.unit))
