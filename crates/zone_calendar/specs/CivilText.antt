-- How a civil moment is written, and what a text in that form says.
use Rattle.std.specs.Prelude.{ℕ, ◌+◌, ◌-◌, ◌*◌, ◌/◌, ◌%◌, pos, Bool, ◌&&◌, ◌==◌, nat_le, nat_lt}
use Rattle.std.specs.Prelude.{List, [], ◌∷◌, ◌++◌, length, slice_index, unsigned_abs, Option, Some}
use Rattle.std.specs.Prelude.{None, option_and_then, if◌then◌else◌}
use Rattle.std.specs.Char.{is_ascii_digit}
use Rattle.jiff_core.specs.Calendar.{days_in_month}
use Rattle.zone_calendar.specs.declared.civil.Civil.{Civil}
use Rattle.zone_calendar.specs.declared.civil_text.Parts.{Parts}

-- the numbers of a moment
abbrev pub parts_of : Civil → Parts
parts_of moment = record {
  year = unsigned_abs moment.year;
  month = moment.month;
  day = moment.day;
  hour = moment.hour;
  minute = moment.minute;
  second = moment.second;
}

-- a number below 100 in two digits
abbrev pub two_digits : ℕ → List ℕ
two_digits n = (48 + n / 10) ∷ (48 + n % 10) ∷ []

-- numbers as `2020-01-21 12:30:00`
abbrev pub parts_text : Parts → List ℕ
parts_text parts =
    two_digits (parts.year / 100) ++ (two_digits (parts.year % 100)
    ++ 45 ∷ (two_digits parts.month
    ++ 45 ∷ (two_digits parts.day
    ++ 32 ∷ (two_digits parts.hour
    ++ 58 ∷ (two_digits parts.minute
    ++ 58 ∷ two_digits parts.second)))))

-- the one text of a moment, as `2020-01-21 12:30:00`
abbrev pub civil_text : Civil → List ℕ
civil_text moment = parts_text (parts_of moment)

-- the numbers are those of a real date of the years 1971 to 2097 and a real time
abbrev pub is_moment : Parts → Bool
is_moment parts =
    nat_le 1971 parts.year && nat_le parts.year 2097
    && (nat_le 1 parts.month && nat_le parts.month 12)
    && nat_le 1 parts.day && nat_le parts.day (days_in_month (pos parts.year) parts.month)
    && nat_lt parts.hour 24 && nat_lt parts.minute 60 && nat_lt parts.second 60

-- a text has the length and the marks of a moment
abbrev pub has_form : List ℕ → Bool
has_form text =
    (length text == 19) && (slice_index text 4 == 45) && (slice_index text 7 == 45)
    && (slice_index text 10 == 32) && (slice_index text 13 == 58) && (slice_index text 16 == 58)

-- the number of the two digits at a place
abbrev pub two_at : List ℕ → ℕ → Option ℕ
two_at text at =
    if is_ascii_digit (slice_index text at) && is_ascii_digit (slice_index text (at + 1))
    then Some ((slice_index text at - 48) * 10 + (slice_index text (at + 1) - 48))
    else None

-- the numbers of a moment by its two-digit numbers, where all seven are there
abbrev pub parts_by : Option ℕ → Option ℕ → Option ℕ → Option ℕ → Option ℕ → Option ℕ → Option ℕ
    → Option Parts
parts_by centuries years months days hours minutes seconds =
    option_and_then (λ century.
    option_and_then (λ year. option_and_then (λ month. option_and_then (λ day.
    option_and_then (λ hour. option_and_then (λ minute. option_and_then (λ second.
    Some (record {
      year = century * 100 + year;
      month = month;
      day = day;
      hour = hour;
      minute = minute;
      second = second;
    })) seconds) minutes) hours) days) months) years) centuries

-- the numbers of a text that is laid out as a moment
abbrev pub numbers_in : List ℕ → Option Parts
numbers_in text = parts_by (two_at text 0) (two_at text 2) (two_at text 5) (two_at text 8)
    (two_at text 11) (two_at text 14) (two_at text 17)

-- the numbers of a text in the form of a moment
abbrev pub parts_in : List ℕ → Option Parts
parts_in text = if has_form text then numbers_in text else None
