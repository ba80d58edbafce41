-- The zone of some bytes, or none: the answer of jiff's readers of zone files and of rules.
use Rattle.std.specs.Prelude.{ℕ, ◌-◌, ℤ, ◌&&◌, ◌||◌, Bool, true, false, ◌==◌, nat_eq, int_lt, List}
use Rattle.std.specs.Prelude.{[], ◌∷◌, length, take, drop, bytes_eq, Option, Some, None, option_map}
use Rattle.std.specs.Prelude.{Ok, Err, if◌then◌else◌}
use Rattle.std.specs.List.{starts_with}
use Rattle.std.specs.Str.{is_utf8}
use Rattle.std.specs.Cmp.Lexicographic.{pointwise}
use Rattle.jiff_core.specs.Timestamp.{nanos_of_seconds}
use Rattle.jiff_tz.specs.Flag.{is_dst}
use Rattle.jiff_tz.specs.declared.info.Dst.TheVariants.{Yes, No}
use Rattle.jiff_tz.specs.PosixReader.{read_whole}
use Rattle.jiff_tz.specs.PosixText.{DstText, TzText}
use Rattle.jiff_tz.specs.PosixRule.{match_some, first_nanosecond, last_nanosecond, in_window}
use Rattle.jiff_tz.specs.PosixRule.{int_same, saturating_add}
use Rattle.jiff_tz.specs.TzifReader.{Parsed, TzifText, read_tzif}
use Rattle.jiff_tz.specs.TzifText.{TypeText, TransitionText}
use Rattle.jiff_tz.specs.Year.{year_of_nanos}
use Rattle.zone_calendar.specs.Zone.{ZoneText, Rule, Table, rule_moment, change_at}

-- RFC 9636: a zone file begins with the bytes `TZif`
abbrev pub is_zone_file : List ℕ → Bool
is_zone_file bytes = starts_with nat_eq bytes (84 ∷ 90 ∷ 105 ∷ 102 ∷ [])

-- the bytes of a rule without one line feed at their end, if there is one
abbrev pub rule_bytes : List ℕ → List ℕ
rule_bytes bytes =
    if pointwise nat_eq (drop (length bytes - 1) bytes) (10 ∷ []) then take (length bytes - 1) bytes
    else bytes

-- POSIX TZ: the zone of a rule's bytes
abbrev pub rule_of : List ℕ → Option ZoneText
rule_of bytes = if is_utf8 bytes then option_map Rule (read_whole (rule_bytes bytes)) else None

-- when daylight saving time begins and ends in a year, in nanoseconds of UTC. Where it begins as
-- the year does and its end, read at standard time, leaves the year, it is in force all year
abbrev pub utc_window : ℤ → DstText → ℤ → ℤ × ℤ
utc_window std dst year =
    let start = rule_moment year dst.start std in
    let finish = rule_moment year dst.finish dst.seconds in
    let shifted = saturating_add finish (nanos_of_seconds std) in
    if int_same start (first_nanosecond year)
    && (int_lt shifted (first_nanosecond year) || int_lt (last_nanosecond year) shifted)
    then (start, last_nanosecond year)
    else (start, finish)

-- whether daylight saving time is in force at an instant
abbrev pub is_summer : ℤ → DstText → ℤ → Bool
is_summer std dst instant = in_window (utc_window std dst (year_of_nanos instant)) instant

-- a rule's standard time, and its daylight saving time
abbrev pub std_type : TzText → TypeText
std_type rule = record {
  seconds = rule.std_seconds;
  dst = No;
  name = rule.std_name;
}

abbrev pub dst_type : DstText → TypeText
dst_type dst = record {
  seconds = dst.seconds;
  dst = Yes;
  name = dst.name;
}

-- what a rule says of an instant, in nanoseconds: the offset, the daylight saving flag and the name
abbrev pub rule_type : TzText → ℤ → TypeText
rule_type rule instant = match_some rule.dst (std_type rule) (λ dst.
    if is_summer rule.std_seconds dst instant then dst_type dst else std_type rule)

abbrev pub same_flag : Bool → Bool → Bool
same_flag true flag = flag
same_flag false true = false
same_flag false false = true

-- the same offset, flag and name
abbrev pub same_type : TypeText → TypeText → Bool
same_type a b = int_same a.seconds b.seconds
    && (same_flag (is_dst a.dst) (is_dst b.dst) && bytes_eq a.name b.name)

-- RFC 9636: a file's rule, where it has one, says of the instant of the table's last change what
-- that change says
abbrev pub rule_agrees : List TransitionText → Option TzText → Bool
rule_agrees rows None = true
rule_agrees rows (Some rule) =
    if length rows == 0 then true
    else same_type (rule_type rule (nanos_of_seconds (change_at rows (length rows - 1)).second))
    (change_at rows (length rows - 1)).after

-- the zone of a table that was read
abbrev pub table_of : Parsed TzifText → Option ZoneText
table_of (Ok table) = if rule_agrees table.transitions table.rule then Some (Table table) else None
table_of (Err fault) = None

-- the zone of some bytes
abbrev pub zone_of : List ℕ → Option ZoneText
zone_of bytes = if is_zone_file bytes then table_of (read_tzif bytes) else rule_of bytes
