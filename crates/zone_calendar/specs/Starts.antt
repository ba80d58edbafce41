-- The starts of calendar windows.
use Rattle.std.specs.Prelude.{◌↔◌, ℕ, ◌+◌, ◌-◌, ◌*◌, ◌<◌, ◌≤◌, min, ℤ, pos, ◌+ℤ◌, ◌*ℤ◌, int_lt}
use Rattle.std.specs.Prelude.{unsigned_abs, Bool, IsTrue, ⊤, List, length, map, IsPermutation}
use Rattle.std.specs.Int.{int_div_euclid, int_rem_euclid}
use Rattle.std.specs.List.Sorted.{IsNonDecreasing}
use Rattle.std.specs.List.{range_with_len}
use Rattle.jiff_core.specs.Calendar.{days_from_civil, days_in_month}
use Rattle.slo_limits.specs.declared.TheConstants.{MAX_STARTS, MAX_WINDOW}
use Rattle.slo_duration.specs.Unit.{unit_minutes}
use Rattle.slo_duration.specs.declared.duration.Duration.{Duration}
use Rattle.slo_duration.specs.declared.unit.Unit.{Unit as Span}
use Rattle.slo_duration.specs.declared.unit.Unit.TheVariants.{Minute, Hour, Day, Week, Month}
use Rattle.slo_duration.specs.declared.unit.Unit.TheVariants.{Quarter, Year}
use Rattle.zone_calendar.specs.Zone.{ZoneText, instant_at}
use Rattle.zone_calendar.specs.declared.civil.Civil.{Civil}

-- the units of a calendar window
abbrev pub IsCalendarUnit : Span → Type 0
IsCalendarUnit Minute = ⊥
IsCalendarUnit Hour = ⊥
IsCalendarUnit Day = ⊤
IsCalendarUnit Week = ⊤
IsCalendarUnit Month = ⊤
IsCalendarUnit Quarter = ⊤
IsCalendarUnit Year = ⊤

-- the duration of a calendar window: not zero, and at most 366 days by the rolling count
pub record IsCalendarStep (step : Duration) : Type 0 where
  pub unit : IsCalendarUnit step.unit
  pub some : 0 < step.count
  pub short : step.count * unit_minutes step.unit ≤ MAX_WINDOW

-- the days from 1970-01-01 to the date of a moment
abbrev pub day_of : Civil → ℤ
day_of moment = days_from_civil moment.year moment.month moment.day

-- the seconds of its time of day
abbrev pub time_of : Civil → ℕ
time_of moment = moment.hour * 3_600 + moment.minute * 60 + moment.second

-- the months from January of the year 0 to its month
abbrev pub month_of : Civil → ℤ
month_of moment = moment.year *ℤ pos 12 +ℤ pos (moment.month - 1)

-- the year and the month, from 1, of a number of months
abbrev pub year_of_month : ℤ → ℤ
year_of_month months = int_div_euclid months (pos 12)

abbrev pub month_of_year : ℤ → ℕ
month_of_year months = unsigned_abs (int_rem_euclid months (pos 12)) + 1

-- a day of a month, clamped to the month's last day where the month lacks it
abbrev pub clamped_day : ℤ → ℕ → ℤ
clamped_day months day =
    let year = year_of_month months in
    let month = month_of_year months in
    days_from_civil year month (min day (days_in_month year month))

-- the date so many days, weeks, months, quarters of three months or years of twelve after a first
-- one, in one step of civil arithmetic; it is told by its day number
abbrev pub date_after : Civil → Span → ℕ → ℤ
date_after first Minute count = day_of first
date_after first Hour count = day_of first
date_after first Day count = day_of first +ℤ pos count
date_after first Week count = day_of first +ℤ pos (7 * count)
date_after first Month count = clamped_day (month_of first +ℤ pos count) first.day
date_after first Quarter count = clamped_day (month_of first +ℤ pos (3 * count)) first.day
date_after first Year count = clamped_day (month_of first +ℤ pos (12 * count)) first.day

-- the civil moment of the start number k: the first date plus k durations at once, at the first
-- time of day
abbrev pub civil_second : Civil → Duration → ℕ → ℤ
civil_second first step k =
    date_after first step.unit (k * step.count) *ℤ pos 86_400 +ℤ pos (time_of first)

-- the start number k counts where its civil moment, read as UTC, is below the horizon plus 1,560
-- minutes, which is further than any zone is from UTC
abbrev pub is_counted : Civil → Duration → ℕ → ℕ → Bool
is_counted first step horizon k = int_lt (civil_second first step k) (pos ((horizon + 1_560) * 60))

-- the minute of the start number k: its civil moment read in the zone, floored to a minute
abbrev pub start_at : ZoneText → Civil → Duration → ℕ → ℕ
start_at zone first step k =
    unsigned_abs (int_div_euclid (instant_at zone (civil_second first step k)) (pos 60))

-- a list holds one start for each whole number k from 0 on that counts, in order; two at one minute
-- are both there
pub record AreStarts (zone : ZoneText) (first : Civil) (step : Duration) (horizon : ℕ)
    (list : List ℕ) : Type 0 where
  pub counted : (k : ℕ) → IsTrue (is_counted first step horizon k) ↔ (k < length list)
  pub starts : IsPermutation (map (start_at zone first step) (range_with_len 0 (length list))) list
  pub sorted : IsNonDecreasing list

-- more than 40,000 starts count: those of the numbers from 0 to 40,000, and maybe more
abbrev pub AreTooMany : Civil → Duration → ℕ → Type 0
AreTooMany first step horizon = (k : ℕ) → k ≤ MAX_STARTS → IsTrue (is_counted first step horizon k)
