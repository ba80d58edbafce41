-- Which texts are durations: OpenSLO v1, duration shorthand.
use Rattle.std.specs.Prelude.{◌≡◌, ℕ, ◌*◌, ◌≤◌, nat_le, Bool, true, false, List, length, take, drop}
use Rattle.std.specs.Prelude.{Option, Some, None, Result, Ok, Err, ◌==◌, if◌then◌else◌, refl}
use Rattle.std.specs.Char.{is_ascii_digit}
use Rattle.std.specs.List.{prefix_len}
use Rattle.std.proofs.lemmas.Bool.{leb-true}
use Rattle.exact_fraction.specs.Digits.{number_of}
use Rattle.slo_duration.specs.Unit.{unit_of, unit_minutes}
use Rattle.slo_duration.specs.declared.unit.Unit.{Unit}
use Rattle.slo_duration.specs.declared.duration.Duration.{Duration}
use Rattle.slo_duration.specs.declared.read.DurationFault.{DurationFault}
use Rattle.slo_duration.specs.declared.read.DurationFault.TheVariants.{Empty, BadNumber, BadUnit}
use Rattle.slo_duration.specs.declared.read.DurationFault.TheVariants.{TooLong}

-- the digits that begin a text, and what follows them
abbrev pub digits_of : List ℕ → List ℕ
digits_of text = take (prefix_len is_ascii_digit text) text

abbrev pub after_digits : List ℕ → List ℕ
after_digits text = drop (prefix_len is_ascii_digit text) text

-- so many of a unit, where a test tells that the rolling minutes fit 32 bits
abbrev pub fitting_where : (fits : Bool) (count : ℕ) (unit : Unit)
    → (fits ≡ true → count * unit_minutes unit ≤ 4_294_967_295) → Result Duration DurationFault
fitting_where true count unit fact = Ok (record { count = count; unit = unit; fits = fact refl })
fitting_where false count unit fact = Err TooLong

abbrev pub fitting : ℕ → Unit → Result Duration DurationFault
fitting count unit =
    fitting_where (nat_le (count * unit_minutes unit) 4_294_967_295) count unit (leb-true _ _)

abbrev pub in_unit : ℕ → Option Unit → Result Duration DurationFault
in_unit count None = Err BadUnit
in_unit count (Some unit) = fitting count unit

-- the duration of a text of digits and one letter, or the first fault of the text: no bytes, no
-- digit at its front, something else than one letter of a unit after the digits, too many minutes
unfoldable pub duration_of : List ℕ → Result Duration DurationFault
duration_of text =
    if length text == 0 then Err Empty
    else (if prefix_len is_ascii_digit text == 0 then Err BadNumber
    else in_unit (number_of (digits_of text)) (unit_of (after_digits text)))
