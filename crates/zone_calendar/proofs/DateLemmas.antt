-- Later starts have later dates.
use Rattle.std.proofs.Common.{◌≡◌, ◌⊎◌, inl, inr, ℕ, ◌-◌, ◌<◌, ◌≤◌, ℤ, pos, ◌+ℤ◌, ◌*ℤ◌, ◌<ℤ◌, ◌≤ℤ◌}
use Rattle.std.proofs.Common.{refl, arith}
use Rattle.std.proofs.lemmas.Int.{by_lt_z}
use Rattle.jiff_core.specs.Calendar.{IsYear, IsCivilDate, days_from_civil}
use Rattle.jiff_core.proofs.CalendarLemmas.{days_from_civil-day_count, days_in_month_bounds}
use Rattle.jiff_core.proofs.MarchLemmas.{day_count-early}
use Rattle.jiff_core.proofs.SignedLemmas.{signed_arith}
use Rattle.jiff_span.proofs.MonthLemmas.{days_from_civil-month}
use Rattle.slo_duration.specs.declared.unit.Unit.{Unit as Span}
use Rattle.slo_duration.specs.declared.unit.Unit.TheVariants.{Minute, Hour, Day, Week, Month}
use Rattle.slo_duration.specs.declared.unit.Unit.TheVariants.{Quarter, Year}
use Rattle.zone_calendar.specs.Starts.{IsCalendarUnit, day_of, month_of, year_of_month}
use Rattle.zone_calendar.specs.Starts.{month_of_year, clamped_day, date_after}
use Rattle.zone_calendar.specs.declared.civil.Civil.{Civil}

-- a number of months is that of its year and its month
record AreParts (months : ℤ) : Type 0 where
  whole : months ≡ year_of_month months *ℤ pos 12 +ℤ pos (month_of_year months - 1)
  low : 1 ≤ month_of_year months
  high : month_of_year months ≤ 12

parts : (months : ℤ) → AreParts months
parts months = record {
  whole = omega (arith, signed_arith);
  low = omega (arith, signed_arith);
  high = omega (arith, signed_arith);
}

-- a moment's date is one of the calendar's
civil_date : (first : Civil) → IsCivilDate first.year first.month first.day
civil_date first = (
  ((omega (arith, signed_arith, first.year_in), omega (arith, signed_arith, first.year_in))),
  first.month_in,
  first.day_in,
)

-- a later month has a later date, while the earlier one's year is the library's
clamped_day-lt : (earlier later : ℤ) (day : ℕ) → 1 ≤ day → IsYear (year_of_month earlier)
    → earlier <ℤ later → clamped_day earlier day <ℤ clamped_day later day
clamped_day-lt earlier later day first year lt =
    let a = parts earlier in
    let b = parts later in
    let long = days_in_month_bounds (year_of_month earlier) (month_of_year earlier) in
    let long_later = days_in_month_bounds (year_of_month later) (month_of_year later) in
    days_from_civil-month _ _ _ _ _ _ (year, (a.low, a.high), (omega arith, omega arith)) b.low
    b.high (omega arith) (omega (arith, signed_arith, a.whole, b.whole))

-- 2299-01-01 lies past every horizon
far_day : pos 120_165 ≤ℤ days_from_civil (pos 2299) 1 1
far_day = omega (
  arith,
  signed_arith,
  days_from_civil-day_count (pos 2299) 1 1,
  day_count-early (pos 2299) 12298 1 1 refl (omega arith) (omega arith) (omega arith),
)

-- 1970-02-01
early_day : pos 31 ≤ℤ days_from_civil (pos 1970) 2 1
early_day = omega (
  arith,
  signed_arith,
  days_from_civil-day_count (pos 1970) 2 1,
  day_count-early (pos 1970) 11969 2 1 refl (omega arith) (omega arith) (omega arith),
)

-- a month behind another has a later date than that one's first day
clamped_day-behind : (year : ℤ) (month : ℕ) (months : ℤ) (day : ℕ) → IsCivilDate year month 1
    → 1 ≤ day → (year *ℤ pos 12 +ℤ pos month) ≤ℤ months
    → days_from_civil year month 1 <ℤ clamped_day months day
clamped_day-behind year month months day date first le =
    let b = parts months in
    let long = days_in_month_bounds (year_of_month months) (month_of_year months) in
    days_from_civil-month year _ month _ 1 _ date b.low b.high (omega arith)
    (omega (arith, signed_arith, b.whole))

-- a month after January 2299 lies past every horizon
pub clamped_day-far : (months : ℤ) (day : ℕ) → 1 ≤ day → pos 27_588 <ℤ months
    → pos 100_000 ≤ℤ clamped_day months day
clamped_day-far months day first lt =
    let after = clamped_day-behind (pos 2299) 1 months day (
      (omega (arith, signed_arith), omega (arith, signed_arith)),
      (omega arith, omega arith),
      (omega arith, omega arith),
    ) first (omega (arith, signed_arith, lt)) in
    omega (arith, signed_arith, far_day)

-- a month from 1971 on lies after February 1st, 1970
clamped_day-low : (months : ℤ) (day : ℕ) → 1 ≤ day → pos 23_652 ≤ℤ months
    → pos 31 ≤ℤ clamped_day months day
clamped_day-low months day first le =
    let after = clamped_day-behind (pos 1970) 2 months day (
      (omega (arith, signed_arith), omega (arith, signed_arith)),
      (omega arith, omega arith),
      (omega arith, omega arith),
    ) first (omega (arith, signed_arith, le)) in
    omega (arith, signed_arith, early_day)

day_of-low : (first : Civil) → pos 31 ≤ℤ day_of first
day_of-low first =
    let after = days_from_civil-month (pos 1970) first.year 2 first.month 1 first.day (
      (omega (arith, signed_arith), omega (arith, signed_arith)),
      (omega arith, omega arith),
      (omega arith, omega arith),
    ) first.month_in.0 first.month_in.1 first.day_in.0
    (omega (arith, signed_arith, first.year_in, first.month_in)) in
    omega (arith, signed_arith, early_day)

pub month_of-low : (first : Civil) → pos 23_652 ≤ℤ month_of first
month_of-low first = omega (arith, signed_arith, first.year_in)

-- each start's date lies after February 1st, 1970
pub date_after-low : (first : Civil) (unit : Span) (count : ℕ)
    → pos 31 ≤ℤ date_after first unit count
date_after-low first Minute count = day_of-low first
date_after-low first Hour count = day_of-low first
date_after-low first Day count = omega (arith, signed_arith, day_of-low first)
date_after-low first Week count = omega (arith, signed_arith, day_of-low first)
date_after-low first Month count =
    clamped_day-low _ first.day first.day_in.0 (omega (arith, signed_arith, month_of-low first))
date_after-low first Quarter count =
    clamped_day-low _ first.day first.day_in.0 (omega (arith, signed_arith, month_of-low first))
date_after-low first Year count =
    clamped_day-low _ first.day first.day_in.0 (omega (arith, signed_arith, month_of-low first))

-- the second date is later than the first, or past every horizon
abbrev IsLater : ℤ → ℤ → Type 0
IsLater a b = (a <ℤ b) ⊎ (pos 100_000 ≤ℤ b)

clamped_day-later : (earlier later : ℤ) (day : ℕ) → 1 ≤ day → pos 0 ≤ℤ earlier → earlier <ℤ later
    → IsLater (clamped_day earlier day) (clamped_day later day)
clamped_day-later earlier later day first low lt =
    by_lt_z (pos 27_588) later
    (λ far. inr (clamped_day-far later day first far))
    (λ near. inl (clamped_day-lt earlier later day first (let a = parts earlier in
    (omega (arith, signed_arith, a.whole), omega (arith, signed_arith, a.whole))) lt))

-- after more of a unit the date is later
pub date_after-later : (first : Civil) (unit : Span) → IsCalendarUnit unit → (few more : ℕ)
    → few < more → IsLater (date_after first unit few) (date_after first unit more)
date_after-later first Minute calendar few more lt = absurd calendar
date_after-later first Hour calendar few more lt = absurd calendar
date_after-later first Day calendar few more lt = inl (omega (arith, signed_arith))
date_after-later first Week calendar few more lt = inl (omega (arith, signed_arith))
date_after-later first Month calendar few more lt = clamped_day-later _ _ first.day first.day_in.0
    (omega (arith, signed_arith, month_of-low first)) (omega (arith, signed_arith))
date_after-later first Quarter calendar few more lt = clamped_day-later _ _ first.day first.day_in.0
    (omega (arith, signed_arith, month_of-low first)) (omega (arith, signed_arith))
date_after-later first Year calendar few more lt = clamped_day-later _ _ first.day first.day_in.0
    (omega (arith, signed_arith, month_of-low first)) (omega (arith, signed_arith))
