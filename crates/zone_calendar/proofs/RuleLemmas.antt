-- What a rule makes of a civil moment depends on the rule's text and the moment's second alone.
use Rattle.std.proofs.Common.{◌≡◌, ℤ, pos, Bool, true, false, cond, Option, Some, None, refl, ap}
use Rattle.std.proofs.Common.{◌∙◌, arith, option_map}
use Rattle.std.specs.Int.{int_div_euclid}
use Rattle.jiff_core.proofs.SignedLemmas.{signed_arith}
use Rattle.jiff_core.proofs.DateTimeLemmas.{civil_nanos-civil_seconds}
use Rattle.jiff_core.specs.Date.{epoch_day}
use Rattle.jiff_core.specs.DateTime.{civil_seconds, civil_nanos}
use Rattle.jiff_core.specs.Timestamp.{nanos_of_seconds}
use Rattle.jiff_core.specs.declared.Offset.{Offset}
use Rattle.jiff_core.specs.declared.civil.datetime.DateTime.{DateTime}
use Rattle.jiff_tz.specs.declared.ambiguous.AmbiguousOffset.{AmbiguousOffset}
use Rattle.jiff_tz.specs.declared.posix.DayTime.{DayTime}
use Rattle.jiff_tz.specs.declared.posix.Dst.{Dst}
use Rattle.jiff_tz.specs.declared.posix.TimeZone.{TimeZone}
use Rattle.jiff_tz.specs.PosixRule.{ambiguous_at, ambiguous_at_by, ambiguous_by, rule_nanos}
use Rattle.jiff_tz.specs.PosixText.{day_time_view, dst_view, tz_view}
use Rattle.jiff_tz.proofs.YearLemmas.{year_of_day-date}
use Rattle.jiff_tz.specs.Year.{year_of_day}
use Rattle.zone_calendar.specs.Kind.{reading_of}
use Rattle.zone_calendar.specs.Zone.{window_reading, rule_moment, year_of_second, rule_reading}
use Rattle.zone_calendar.specs.Zone.{rule_reading_by}

-- the whole days of a civil second are the day number of its date
day_of_second : (moment : DateTime)
    → int_div_euclid (civil_seconds moment) (pos 86_400) ≡ epoch_day moment.date
unfolding civil_seconds
day_of_second moment = omega (arith, signed_arith)

-- the year of a civil second is the year of its date
pub year_of_second-date : (moment : DateTime)
    → year_of_second (civil_seconds moment) ≡ moment.date.year
year_of_second-date moment = ap year_of_day (day_of_second moment) ∙ year_of_day-date moment.date

-- a rule's moment in a year
pub rule_nanos-moment : (year : ℤ) (change : DayTime) (behind : ℤ)
    → rule_nanos year change behind ≡ rule_moment year (day_time_view change) behind
unfolding rule_nanos
rule_nanos-moment year change behind = refl

pub reading_of-cond : (b : Bool) (x y : AmbiguousOffset)
    → reading_of (cond b x y) ≡ cond b (reading_of x) (reading_of y)
reading_of-cond true x y = refl
reading_of-cond false x y = refl

by_window : (std dst : Offset) (window : ℤ × ℤ) (at : ℤ)
    → reading_of (ambiguous_by std dst window at) ≡ window_reading std.seconds dst.seconds window at
by_window std dst window at = simp reading_of-cond

-- a moment with no fraction of a second is its second, in nanoseconds
nanos_of_moment : (moment : DateTime) → moment.time.subsec_nanosecond ≡ 0
    → civil_nanos moment ≡ nanos_of_seconds (civil_seconds moment)
nanos_of_moment moment whole = omega (arith, signed_arith, civil_nanos-civil_seconds moment)

by_parts : (std : Offset) (dst : Option Dst) (moment : DateTime)
    → moment.time.subsec_nanosecond ≡ 0 → reading_of (ambiguous_at_by std dst moment)
    ≡ rule_reading_by std.seconds (option_map dst_view dst) (civil_seconds moment)
by_parts std None moment whole = refl
by_parts std (Some dst) moment whole =
    rw (
      rule_nanos-moment moment.date.year dst.rule.start (pos 0),
      rule_nanos-moment moment.date.year dst.rule.end (pos 0),
      nanos_of_moment moment whole,
      year_of_second-date moment,
    )
    (by_window std dst.offset (
      rule_moment moment.date.year (day_time_view dst.rule.start) (pos 0),
      rule_moment moment.date.year (day_time_view dst.rule.end) (pos 0),
    )
    (nanos_of_seconds (civil_seconds moment)))

-- what jiff's rule answers is what its text says
pub ambiguous_at-rule : (rule : TimeZone) (moment : DateTime) → moment.time.subsec_nanosecond ≡ 0
    → reading_of (ambiguous_at rule moment) ≡ rule_reading (tz_view rule) (civil_seconds moment)
ambiguous_at-rule rule moment whole = by_parts rule.std_offset rule.dst moment whole
