-- What a zone says of a civil moment, as a function of the zone's text alone. A civil moment
-- is told by its second: the seconds since 1970-01-01 00:00:00 on a clock whose days have
-- 86,400 of them.
use Rattle.std.specs.Prelude.{ℕ, ◌-◌, ℤ, pos, ◌-ℤ◌, ◌+ℤ◌, ◌*ℤ◌, Bool, false, not, ◌==◌, int_le}
use Rattle.std.specs.Prelude.{int_lt, List, [], ◌∷◌, length, get_or, Option, Some, None}
use Rattle.std.specs.Prelude.{if◌then◌else◌}
use Rattle.std.specs.List.{prefix_len}
use Rattle.std.specs.Int.{int_min, int_max, int_div_euclid}
use Rattle.jiff_core.specs.Timestamp.{nanos_of_seconds}
use Rattle.jiff_tz.specs.declared.posix.Day.{Day}
use Rattle.jiff_tz.specs.PosixText.{DstText, TzText}
use Rattle.jiff_tz.specs.PosixRule.{match_some, clamp_to, nanos_per_day, first_nanosecond}
use Rattle.jiff_tz.specs.PosixRule.{last_nanosecond, rule_day, in_window, in_span, saturating_add}
use Rattle.jiff_tz.specs.PosixRule.{saturating_sub}
use Rattle.jiff_tz.specs.TzifReader.{TzifText}
use Rattle.jiff_tz.specs.TzifText.{TypeText, TransitionText, civil_start, civil_end, no_row}
use Rattle.jiff_tz.specs.Year.{year_of_day}

-- a zone's text: what a rule of POSIX TZ or a zone file of RFC 9636 says, as jiff
-- states its readers
pub data ZoneText : Type 0 where
  Rule : TzText → ZoneText
  Table : TzifText → ZoneText

-- Coordinated Universal Time: the rule `UTC0`
abbrev pub utc_text : ZoneText
utc_text = Rule (record {
  std_name = 85 ∷ 84 ∷ 67 ∷ [];
  std_seconds = pos 0;
  dst = None;
})

-- how a zone's clock comes to show a civil moment: once, at this offset from UTC in seconds; never,
-- in the gap of a change from one offset to another; or twice, in the fold of such a change
pub data Reading : Type 0 where
  Once : ℤ → Reading
  Gap : ℤ → ℤ → Reading
  Fold : ℤ → ℤ → Reading

-- the instant of a civil moment, in seconds since 1970-01-01T00:00:00Z: in a gap the later side, in
-- a fold the earlier
abbrev pub instant_by : ℤ → Reading → ℤ
instant_by second (Once offset) = second -ℤ offset
instant_by second (Gap before after) = int_max (second -ℤ before) (second -ℤ after)
instant_by second (Fold before after) = int_min (second -ℤ before) (second -ℤ after)

-- POSIX TZ: where the clock of daylight saving time is behind, its start is a fold and its
-- end a gap
abbrev pub behind : ℤ → ℤ → ℤ × ℤ → ℤ → Reading
behind std dst window at =
    let shift = nanos_of_seconds dst -ℤ nanos_of_seconds std in
    if in_window window at then Once dst
    else (if in_span (saturating_add window.0 shift) window.0 at then Fold std dst
    else (if in_span window.1 (saturating_sub window.1 shift) at then Gap dst std
    else Once std))

-- POSIX TZ: where the clock of daylight saving time is ahead, its start is a gap and its end a fold
abbrev pub ahead : ℤ → ℤ → ℤ × ℤ → ℤ → Reading
ahead std dst window at =
    let shift = nanos_of_seconds dst -ℤ nanos_of_seconds std in
    if not (in_window window at) then Once std
    else (if in_span window.0 (saturating_add window.0 shift) at then Gap std dst
    else (if in_span (saturating_sub window.1 shift) window.1 at then Fold dst std
    else Once dst))

-- a moment of the clock, in nanoseconds, read by standard time, daylight saving time and the window
-- between their changes
abbrev pub window_reading : ℤ → ℤ → ℤ × ℤ → ℤ → Reading
window_reading std dst window at =
    if int_lt dst std then behind std dst window at
    else (if int_lt std dst then ahead std dst window at else Once std)

-- when a rule's day and time of day come in a year, in nanoseconds of a clock that is so many
-- seconds behind the rule's own; a moment outside the year is at the year's edge, and a day that
-- the year lacks is its end
abbrev pub rule_moment : ℤ → Day × ℤ → ℤ → ℤ
rule_moment year change behind = match_some (rule_day year change.0) (last_nanosecond year) (λ day.
    clamp_to (first_nanosecond year) (last_nanosecond year)
    (day *ℤ nanos_per_day +ℤ nanos_of_seconds (change.1 -ℤ behind)))

-- the year in which a civil moment lies
abbrev pub year_of_second : ℤ → ℤ
year_of_second second = year_of_day (int_div_euclid second (pos 86_400))

-- what a rule with this standard time makes of a civil moment
abbrev pub rule_reading_by : ℤ → Option DstText → ℤ → Reading
rule_reading_by std None second = Once std
rule_reading_by std (Some dst) second =
    let year = year_of_second second in
    window_reading std dst.seconds (
      rule_moment year dst.start (pos 0),
      rule_moment year dst.finish (pos 0),
    ) (nanos_of_seconds second)

-- POSIX TZ: what a rule makes of a civil moment
abbrev pub rule_reading : TzText → ℤ → Reading
rule_reading rule second = rule_reading_by rule.std_seconds rule.dst second

-- how many changes of a table have begun on the civil clock by a second
abbrev pub changes_by : List TransitionText → ℤ → ℕ
changes_by rows second = prefix_len (λ row. int_le (civil_start row) second) rows

-- the change at this place of a table
abbrev pub change_at : List TransitionText → ℕ → TransitionText
change_at rows place = get_or rows place no_row

-- the last of so many changes hasn't ended by a second: its gap or fold goes on
abbrev pub goes_on : List TransitionText → ℕ → ℤ → Bool
goes_on rows count second =
    if count == 0 then false else int_lt second (civil_end (change_at rows (count - 1)))

-- a moment during a change: a gap where the clock goes forward, else a fold
abbrev pub change_reading : TransitionText → Reading
change_reading row =
    if int_lt row.before row.after.seconds then Gap row.before row.after.seconds
    else Fold row.before row.after.seconds

-- the offset that holds after so many changes
abbrev pub offset_after : TypeText → List TransitionText → ℕ → ℤ
offset_after first rows count =
    if count == 0 then first.seconds else (change_at rows (count - 1)).after.seconds

-- RFC 9636: after the table's last change its rule holds, where it has one
abbrev pub reading_after : TzifText → ℕ → ℤ → Reading
reading_after table count second =
    match_some (if count == length table.transitions then table.rule else None)
    (Once (offset_after table.first table.transitions count))
    (λ rule. rule_reading rule second)

-- what a table makes of a civil moment, of whose changes so many have begun
abbrev pub table_reading_by : TzifText → ℕ → ℤ → Reading
table_reading_by table count second =
    if goes_on table.transitions count second
    then change_reading (change_at table.transitions (count - 1))
    else reading_after table count second

-- RFC 9636: what a table makes of a civil moment
abbrev pub table_reading : TzifText → ℤ → Reading
table_reading table second = table_reading_by table (changes_by table.transitions second) second

-- what a zone's clock makes of a civil moment
unfoldable pub reading_at : ZoneText → ℤ → Reading
reading_at (Rule rule) second = rule_reading rule second
reading_at (Table table) second = table_reading table second

-- the instant of a civil moment in a zone
abbrev pub instant_at : ZoneText → ℤ → ℤ
instant_at zone second = instant_by second (reading_at zone second)
