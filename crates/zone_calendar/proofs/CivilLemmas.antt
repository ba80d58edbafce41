-- A text of the form is the text of its numbers, and the text of a moment gives its numbers back.
use Rattle.std.proofs.Common.{◌≡◌, ℕ, ◌+◌, ◌-◌, ◌*◌, ◌/◌, ◌%◌, ◌<◌, ◌≤◌, ℤ, pos, negsuc, ◌≤ℤ◌, ◌&&◌}
use Rattle.std.proofs.Common.{Bool, true, false, cond, unsigned_abs, to_z, w16, List, length}
use Rattle.std.proofs.Common.{get_or, Option, Some, None, refl, sym, subst, ap, ◌∙◌, arith}
use Rattle.std.specs.Prelude.{IfSome}
use Rattle.std.specs.Char.{is_ascii_digit}
use Rattle.std.proofs.lemmas.Bool.Decides.{nat_tests}
use Rattle.std.proofs.lemmas.Slice.Eq.{text_from_reads}
use Rattle.jiff_core.proofs.SignedLemmas.{signed_arith, back_small}
use Rattle.jiff_core.specs.Calendar.{days_in_month}
use Rattle.jiff_core.proofs.CalendarLemmas.{days_in_month_bounds}
use Rattle.zone_calendar.specs.CivilRead.{InRange, in_range}
use Rattle.zone_calendar.specs.CivilText.{parts_of, parts_text, civil_text, is_moment, has_form}
use Rattle.zone_calendar.specs.CivilText.{two_at, parts_by, numbers_in, parts_in}
use Rattle.zone_calendar.specs.declared.civil.Civil.{Civil}
use Rattle.zone_calendar.specs.declared.civil_text.Parts.{Parts}

-- a year of that range is as a signed number of 16 bits what it is without a sign
pub small_cast : (n : ℕ) → n ≤ 2097 → to_z w16 n ≡ pos n
small_cast n small = back_small w16 (pos n) (omega arith)

pub unsigned : (z : ℤ) → pos 0 ≤ℤ z → pos (unsigned_abs z) ≡ z
unsigned (pos n) h = refl
unsigned (negsuc n) h = absurd (omega (arith, signed_arith))

-- numbers in range pass the test
pub range_test : (parts : Parts) → InRange parts → is_moment parts ≡ true
range_test parts range =
    let low = range.year_low in
    let high = range.year_high in
    let first = range.month_low in
    let last = range.month_high in
    let early = range.day_low in
    let late = range.day_high in
    let hour = range.hour in
    let minute = range.minute in
    let second = range.second in
    grind (arith, nat_tests)

-- each moment's numbers are those of a moment
pub is_moment-civil : (moment : Civil) → is_moment (parts_of moment) ≡ true
is_moment-civil moment =
    let year : pos (unsigned_abs moment.year) ≡ moment.year =
    unsigned moment.year (omega (arith, signed_arith, moment.year_in)) in
    range_test (parts_of moment) (record {
      year_low = omega (arith, signed_arith, moment.year_in);
      year_high = omega (arith, signed_arith, moment.year_in);
      month_low = moment.month_in.0;
      month_high = moment.month_in.1;
      day_low = moment.day_in.0;
      day_high =
          subst (λ (y : ℤ). moment.day ≤ days_in_month y moment.month) (sym year) moment.day_in.1;
      hour = moment.hour_in;
      minute = moment.minute_in;
      second = moment.second_in;
    })

digit_pair : (a b n : ℕ)
    → cond (is_ascii_digit a && is_ascii_digit b) (Some ((a - 48) * 10 + (b - 48))) None ≡ Some n
    → (a ≡ 48 + n / 10) × (b ≡ 48 + n % 10) × (n < 100)
digit_pair a b n e = grind (arith, nat_tests)

two_back : (n : ℕ) → n < 100 → cond (is_ascii_digit (48 + n / 10) && is_ascii_digit (48 + n % 10))
    (Some ((48 + n / 10 - 48) * 10 + (48 + n % 10 - 48))) None ≡ Some n
two_back n small = grind (arith, nat_tests)

-- the two-digit numbers of which some numbers were made
record Numbers (centuries years months days hours minutes seconds : Option ℕ)
    (parts : Parts) : Type 0 where
  century : ℕ
  year : ℕ
  year_is : century * 100 + year ≡ parts.year
  centuries_is : centuries ≡ Some century
  years_is : years ≡ Some year
  months_is : months ≡ Some parts.month
  days_is : days ≡ Some parts.day
  hours_is : hours ≡ Some parts.hour
  minutes_is : minutes ≡ Some parts.minute
  seconds_is : seconds ≡ Some parts.second

numbers : (centuries years months days hours minutes seconds : Option ℕ) (parts : Parts)
    → parts_by centuries years months days hours minutes seconds ≡ Some parts
    → Numbers centuries years months days hours minutes seconds parts
numbers None years months days hours minutes seconds parts e = absurd (cc)
numbers (Some c) None months days hours minutes seconds parts e = absurd (cc)
numbers (Some c) (Some y) None days hours minutes seconds parts e = absurd (cc)
numbers (Some c) (Some y) (Some m) None hours minutes seconds parts e = absurd (cc)
numbers (Some c) (Some y) (Some m) (Some d) None minutes seconds parts e = absurd (cc)
numbers (Some c) (Some y) (Some m) (Some d) (Some h) None seconds parts e = absurd (cc)
numbers (Some c) (Some y) (Some m) (Some d) (Some h) (Some n) None parts e = absurd (cc)
numbers (Some c) (Some y) (Some m) (Some d) (Some h) (Some n) (Some s) parts e =
    let made : Parts = record {
      year = c * 100 + y;
      month = m;
      day = d;
      hour = h;
      minute = n;
      second = s;
    } in
    let same : made ≡ parts = cc in
    record {
      century = c;
      year = y;
      year_is = ap (λ (p : Parts). p.year) same;
      centuries_is = refl;
      years_is = refl;
      months_is = ap (λ (p : Parts). Some p.month) same;
      days_is = ap (λ (p : Parts). Some p.day) same;
      hours_is = ap (λ (p : Parts). Some p.hour) same;
      minutes_is = ap (λ (p : Parts). Some p.minute) same;
      seconds_is = ap (λ (p : Parts). Some p.second) same;
    }

-- the form's length and marks
record HasMarks (text : List ℕ) : Type 0 where
  long : length text ≡ 19
  after_year : get_or text 4 0 ≡ 45
  after_month : get_or text 7 0 ≡ 45
  after_day : get_or text 10 0 ≡ 32
  after_hour : get_or text 13 0 ≡ 58
  after_minute : get_or text 16 0 ≡ 58

marks : (text : List ℕ) → has_form text ≡ true → HasMarks text
marks text form = grind (arith, nat_tests)

-- the year's four digits are the century's and the year's in it
year_parts : (century year : ℕ) → year < 100 → ((century * 100 + year) / 100 ≡ century)
    × ((century * 100 + year) % 100 ≡ year)
year_parts century year small = omega arith

year_is_in : (century year whole : ℕ) → year < 100 → century * 100 + year ≡ whole
    → (whole / 100 ≡ century) × (whole % 100 ≡ year)
year_is_in century year whole small e = rw (← e) (year_parts century year small)

-- a text in the form is the text of its numbers
laid_out : (text : List ℕ) (parts : Parts) → has_form text ≡ true → numbers_in text ≡ Some parts
    → text ≡ parts_text parts
laid_out text parts form read =
    let marked = marks text form in
    let found = numbers (two_at text 0) (two_at text 2) (two_at text 5) (two_at text 8)
    (two_at text 11) (two_at text 14) (two_at text 17) parts read in
    let c = digit_pair (get_or text 0 0) (get_or text 1 0) found.century found.centuries_is in
    let y = digit_pair (get_or text 2 0) (get_or text 3 0) found.year found.years_is in
    let m = digit_pair (get_or text 5 0) (get_or text 6 0) parts.month found.months_is in
    let d = digit_pair (get_or text 8 0) (get_or text 9 0) parts.day found.days_is in
    let h = digit_pair (get_or text 11 0) (get_or text 12 0) parts.hour found.hours_is in
    let n = digit_pair (get_or text 14 0) (get_or text 15 0) parts.minute found.minutes_is in
    let s = digit_pair (get_or text 17 0) (get_or text 18 0) parts.second found.seconds_is in
    let whole = year_is_in found.century found.year parts.year y.2 found.year_is in
    text_from_reads text (parts_text parts) marked.long (
      rw whole.0 c.0,
      (
        rw whole.0 c.1,
        (
          rw whole.1 y.0,
          (
            rw whole.1 y.1,
            (
              marked.after_year,
              (
                m.0,
                (
                  m.1,
                  (
                    marked.after_month,
                    (
                      d.0,
                      (
                        d.1,
                        (
                          marked.after_day,
                          (
                            h.0,
                            (
                              h.1,
                              (
                                marked.after_hour,
                                (n.0, (n.1, (marked.after_minute, (s.0, (s.1, tt))))),
                              ),
                            ),
                          ),
                        ),
                      ),
                    ),
                  ),
                ),
              ),
            ),
          ),
        ),
      ),
    )

pub text_of_parts : (text : List ℕ) (parts : Parts) → parts_in text ≡ Some parts
    → text ≡ parts_text parts
text_of_parts text parts read = by_form (has_form text) refl read
  where
    by_form : (form : Bool) → has_form text ≡ form → cond form (numbers_in text) None ≡ Some parts
        → text ≡ parts_text parts
    by_form true e read = laid_out text parts e read
    by_form false e read = absurd (cc)

-- the text of numbers in range gives them back
pub parts_in-text : (parts : Parts) → InRange parts → parts_in (parts_text parts) ≡ Some parts
parts_in-text parts range =
    let century : parts.year / 100 < 100 = omega (arith, range.year_high) in
    let year : parts.year % 100 < 100 = omega arith in
    let month : parts.month < 100 = omega (arith, range.month_high) in
    let day : parts.day < 100 =
    omega (arith, range.day_high, days_in_month_bounds (pos parts.year) parts.month) in
    let hour : parts.hour < 100 = omega (arith, range.hour) in
    let minute : parts.minute < 100 = omega (arith, range.minute) in
    let second : parts.second < 100 = omega (arith, range.second) in
    let whole : parts.year / 100 * 100 + parts.year % 100 ≡ parts.year = omega arith in
    rw (
      two_back (parts.year / 100) century,
      two_back (parts.year % 100) year,
      two_back parts.month month,
      two_back parts.day day,
      two_back parts.hour hour,
      two_back parts.minute minute,
      two_back parts.second second,
    )
    (ap (λ y. Some (record {
      year = y;
      month = parts.month;
      day = parts.day;
      hour = parts.hour;
      minute = parts.minute;
      second = parts.second;
    })) whole)

pub parts_in-civil : (moment : Civil) → parts_in (civil_text moment) ≡ Some (parts_of moment)
parts_in-civil moment =
    parts_in-text (parts_of moment) (in_range (parts_of moment) (is_moment-civil moment))

pub text_of : (r : Option Civil) (text : List ℕ) (parts : Parts) → text ≡ parts_text parts
    → IfSome r (λ moment. parts_of moment ≡ parts) → IfSome r (λ moment. text ≡ civil_text moment)
text_of None text parts e some = tt
text_of (Some moment) text parts e some = e ∙ ap parts_text (sym some)
