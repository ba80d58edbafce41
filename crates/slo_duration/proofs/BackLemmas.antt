-- What is written reads back.
use Rattle.std.proofs.Common.{◌≡◌, ℕ, ◌*◌, ◌<◌, ◌≤◌, ◌^◌, false, nat_eq, List, [], ◌∷◌, ◌++◌}
use Rattle.std.proofs.Common.{length, Some, Result, Ok, refl, ap, ◌∙◌, arith}
use Rattle.std.specs.Char.{is_ascii_digit}
use Rattle.std.specs.List.{prefix_len}
use Rattle.std.proofs.Math.Seq.{take-append_seam, drop-append_seam}
use Rattle.std.proofs.lemmas.Bool.Decides.{nat_tests}
use Rattle.std.proofs.lemmas.List.{length-append}
use Rattle.std.proofs.lemmas.List.Folds.{prefix_len-append}
use Rattle.slo_duration.specs.Unit.{letter, unit_of_letter, unit_minutes}
use Rattle.slo_duration.specs.Reading.{duration_of, fitting}
use Rattle.slo_duration.specs.Writing.{duration_text}
use Rattle.slo_duration.specs.declared.unit.Unit.{Unit}
use Rattle.slo_duration.specs.declared.unit.Unit.TheVariants.{Minute, Hour, Day, Week, Month}
use Rattle.slo_duration.specs.declared.unit.Unit.TheVariants.{Quarter, Year}
use Rattle.slo_duration.specs.declared.duration.Duration.{Duration}
use Rattle.slo_duration.specs.declared.read.DurationFault.{DurationFault}
use Rattle.slo_duration.proofs.DigitLemmas.{AreDigits, decimal_are_digits}
use Rattle.slo_duration.proofs.SameLemmas.{fitting_again}

no_digit : (unit : Unit) → is_ascii_digit (letter unit) ≡ false
no_digit Minute = refl
no_digit Hour = refl
no_digit Day = refl
no_digit Week = refl
no_digit Month = refl
no_digit Quarter = refl
no_digit Year = refl

unit_of_letter-letter : (unit : Unit) → unit_of_letter (letter unit) ≡ Some unit
unit_of_letter-letter Minute = refl
unit_of_letter-letter Hour = refl
unit_of_letter-letter Day = refl
unit_of_letter-letter Week = refl
unit_of_letter-letter Month = refl
unit_of_letter-letter Quarter = refl
unit_of_letter-letter Year = refl

count_small : (count : ℕ) (unit : Unit) → count * unit_minutes unit ≤ 4_294_967_295 → count < 2 ^ 64
count_small count Minute fits = omega arith
count_small count Hour fits = omega arith
count_small count Day fits = omega arith
count_small count Week fits = omega arith
count_small count Month fits = omega arith
count_small count Quarter fits = omega arith
count_small count Year fits = omega arith

-- the digits at the front of digits and a letter
front : (digits : List ℕ) (unit : Unit) → prefix_len is_ascii_digit digits ≡ length digits
    → prefix_len is_ascii_digit (digits ++ letter unit ∷ []) ≡ length digits
front digits unit all = prefix_len-append is_ascii_digit digits (letter unit ∷ [])
    ∙ rw (no_digit unit, all) (grind (arith, nat_tests))

of_parts : (count : ℕ) (unit : Unit) (digits : List ℕ) → AreDigits count digits
    → duration_of (digits ++ letter unit ∷ []) ≡ fitting count unit
unfolding duration_of
of_parts count unit digits are =
    let some : nat_eq (length digits) 0 ≡ false =
    (let above = are.some in grind (arith, nat_tests)) in
    let filled : nat_eq (length (digits ++ letter unit ∷ [])) 0 ≡ false =
    (let long = length-append digits (letter unit ∷ []) in grind (arith, nat_tests)) in
    rw (
      filled,
      front digits unit are.all,
      some,
      take-append_seam digits (letter unit ∷ []),
      drop-append_seam digits (letter unit ∷ []),
      are.value,
      unit_of_letter-letter unit,
    )
    refl

-- the text of a duration stands for it
pub duration_of-text : (value : Duration) → duration_of (duration_text value) ≡ Ok value
duration_of-text value = of_parts value.count value.unit _
    (decimal_are_digits value.count (count_small value.count value.unit value.fits))
    ∙ fitting_again value

-- what is read of the text of a duration is the duration
pub reads_back : (r : Result Duration DurationFault) (text : List ℕ) → r ≡ duration_of text
    → (value : Duration) → text ≡ duration_text value → r ≡ Ok value
reads_back r text read value e = read ∙ ap duration_of e ∙ duration_of-text value
