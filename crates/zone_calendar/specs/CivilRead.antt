-- The moment that a text stands for.
use Rattle.std.specs.Prelude.{◌≡◌, ℕ, ◌≤◌, ◌<◌, pos, Bool, true, false, List, Option, Some, None}
use Rattle.std.specs.Prelude.{refl}
use Rattle.std.proofs.Common.{arith}
use Rattle.std.proofs.lemmas.Bool.Decides.{nat_tests}
use Rattle.jiff_core.specs.Calendar.{IsBetween, days_in_month}
use Rattle.jiff_core.proofs.SignedLemmas.{signed_arith}
use Rattle.zone_calendar.specs.CivilText.{parts_in, is_moment}
use Rattle.zone_calendar.specs.declared.civil.Civil.{Civil}
use Rattle.zone_calendar.specs.declared.civil_text.Parts.{Parts}

-- the numbers of a moment are in range
pub record InRange (parts : Parts) : Type 0 where
  pub year_low : 1971 ≤ parts.year
  pub year_high : parts.year ≤ 2097
  pub month_low : 1 ≤ parts.month
  pub month_high : parts.month ≤ 12
  pub day_low : 1 ≤ parts.day
  pub day_high : parts.day ≤ days_in_month (pos parts.year) parts.month
  pub hour : parts.hour < 24
  pub minute : parts.minute < 60
  pub second : parts.second < 60

pub in_range : (parts : Parts) → is_moment parts ≡ true → InRange parts
in_range parts test = grind (arith, nat_tests)

pub year_between : (n : ℕ) → 1971 ≤ n → n ≤ 2097 → IsBetween (pos 1971) (pos 2097) (pos n)
year_between n low high = (omega (arith, signed_arith), omega (arith, signed_arith))

-- the moment with these numbers, where they are those of a moment
abbrev pub civil_of : (parts : Parts) → InRange parts → Civil
civil_of parts range = record {
  year = pos parts.year;
  month = parts.month;
  day = parts.day;
  hour = parts.hour;
  minute = parts.minute;
  second = parts.second;
  year_in = year_between parts.year range.year_low range.year_high;
  month_in = (range.month_low, range.month_high);
  day_in = (range.day_low, range.day_high);
  hour_in = range.hour;
  minute_in = range.minute;
  second_in = range.second;
}

abbrev pub civil_from : (parts : Parts) (b : Bool) → is_moment parts ≡ b → Option Civil
civil_from parts true e = Some (civil_of parts (in_range parts e))
civil_from parts false e = None

abbrev pub civil_when : Option Parts → Option Civil
civil_when None = None
civil_when (Some parts) = civil_from parts (is_moment parts) refl

-- the moment that a text stands for
unfoldable pub civil_read : List ℕ → Option Civil
civil_read bytes = civil_when (parts_in bytes)
