-- A zone that is read has offsets of less than 26 hours, since each offset of the library
-- is in range.
use Rattle.std.proofs.Common.{ℕ, zero, suc, ◌-◌, ℤ, pos, ◌-ℤ◌, int_lt, Bool, true, false, not, cond}
use Rattle.std.proofs.Common.{nat_eq, length, List, [], ◌∷◌, map, Option, Some, None, option_map}
use Rattle.std.proofs.Common.{arith}
use Rattle.jiff_core.proofs.SignedLemmas.{signed_arith}
use Rattle.jiff_core.specs.Calendar.{IsWithin}
use Rattle.jiff_core.specs.declared.Offset.{Offset}
use Rattle.jiff_tz.specs.declared.posix.Dst.{Dst}
use Rattle.jiff_tz.specs.declared.posix.TimeZone.{TimeZone}
use Rattle.jiff_tz.specs.declared.tzif.Tzif.{Tzif}
use Rattle.jiff_tz.specs.declared.tzif.transition.Transition.{Transition}
use Rattle.jiff_core.specs.Timestamp.{nanos_of_seconds}
use Rattle.jiff_tz.specs.PosixRule.{match_some, in_window, in_span, saturating_add, saturating_sub}
use Rattle.jiff_tz.specs.PosixText.{day_time_view, dst_view, tz_view}
use Rattle.jiff_tz.specs.Tzif.{tzif_view}
use Rattle.jiff_tz.specs.TzifText.{TransitionText, transition_text, type_view}
use Rattle.zone_calendar.specs.Kind.{kind_text}
use Rattle.zone_calendar.specs.Zone.{Reading, Once, Gap, Fold, instant_at, instant_by, reading_at}
use Rattle.zone_calendar.specs.Zone.{behind, ahead, window_reading, rule_moment, year_of_second}
use Rattle.zone_calendar.specs.Zone.{rule_reading, rule_reading_by, change_reading, changes_by}
use Rattle.zone_calendar.specs.Zone.{table_reading}
use Rattle.zone_calendar.specs.Zone.{table_reading_by, change_at, offset_after, reading_after}
use Rattle.zone_calendar.specs.Zone.{goes_on}
use Rattle.zone_calendar.specs.declared.zone.Kind.{Kind}
use Rattle.zone_calendar.specs.declared.zone.Kind.TheVariants as Kinds
use Rattle.zone_calendar.proofs.StartLemmas.{near_max, near_min}

-- the offsets of a reading are in range
abbrev IsNear : Reading → Type 0
IsNear (Once offset) = IsWithin 93_599 offset
IsNear (Gap before after) = IsWithin 93_599 before × IsWithin 93_599 after
IsNear (Fold before after) = IsWithin 93_599 before × IsWithin 93_599 after

less : (second offset : ℤ) → IsWithin 93_599 offset → IsWithin 93_599 ((second -ℤ offset) -ℤ second)
less second offset near = (omega (arith, signed_arith, near), omega (arith, signed_arith, near))

instant_near : (second : ℤ) (r : Reading) → IsNear r
    → IsWithin 93_599 (instant_by second r -ℤ second)
instant_near second (Once offset) near = less second offset near
instant_near second (Gap before after) near =
    near_max (second -ℤ before) (second -ℤ after) second (less second before near.0)
    (less second after near.1)
instant_near second (Fold before after) near =
    near_min (second -ℤ before) (second -ℤ after) second (less second before near.0)
    (less second after near.1)

either_near : (b : Bool) (p q : Reading) → IsNear p → IsNear q → IsNear (cond b p q)
either_near true p q a b = a
either_near false p q a b = b

three_near : (a b c : Bool) (p q r s : Reading) → IsNear p → IsNear q → IsNear r → IsNear s →
    IsNear (cond a p (cond b q (cond c r s)))
three_near true b c p q r s one two three four = one
three_near false true c p q r s one two three four = two
three_near false false true p q r s one two three four = three
three_near false false false p q r s one two three four = four

behind_near : (std dst : ℤ) (window : ℤ × ℤ) (at : ℤ) → IsWithin 93_599 std →
    IsWithin 93_599 dst → IsNear (behind std dst window at)
behind_near std dst window at a b =
    let shift = nanos_of_seconds dst -ℤ nanos_of_seconds std in
    three_near (in_window window at) (in_span (saturating_add window.0 shift) window.0 at)
    (in_span window.1 (saturating_sub window.1 shift) at) (Once dst) (Fold std dst) (Gap dst std)
    (Once std) b (a, b) (b, a) a

ahead_near : (std dst : ℤ) (window : ℤ × ℤ) (at : ℤ) → IsWithin 93_599 std →
    IsWithin 93_599 dst → IsNear (ahead std dst window at)
ahead_near std dst window at a b =
    let shift = nanos_of_seconds dst -ℤ nanos_of_seconds std in
    three_near (not (in_window window at)) (in_span window.0 (saturating_add window.0 shift) at)
    (in_span (saturating_sub window.1 shift) window.1 at) (Once std) (Gap std dst) (Fold dst std)
    (Once dst) a (a, b) (b, a) b

window_near : (std dst : ℤ) (window : ℤ × ℤ) (at : ℤ) → IsWithin 93_599 std →
    IsWithin 93_599 dst → IsNear (window_reading std dst window at)
window_near std dst window at a b =
    either_near (int_lt dst std) (behind std dst window at)
    (cond (int_lt std dst) (ahead std dst window at) (Once std)) (behind_near std dst window at a b)
    (either_near (int_lt std dst) (ahead std dst window at) (Once std)
    (ahead_near std dst window at a b) a)

rule_by_near : (std : Offset) (dst : Option Dst) (second : ℤ) →
    IsNear (rule_reading_by std.seconds (option_map dst_view dst) second)
rule_by_near std None second = std.in_range
rule_by_near std (Some dst) second =
    let year = year_of_second second in
    window_near std.seconds dst.offset.seconds (
      rule_moment year (day_time_view dst.rule.start) (pos 0),
      rule_moment year (day_time_view dst.rule.end) (pos 0),
    )
    (nanos_of_seconds second) std.in_range dst.offset.in_range

rule_near : (rule : TimeZone) (second : ℤ) → IsNear (rule_reading (tz_view rule) second)
rule_near rule second = rule_by_near rule.std_offset rule.dst second

-- the offsets of a row of a table are in range
IsRowNear : TransitionText → Type 0
IsRowNear row = IsWithin 93_599 row.before × IsWithin 93_599 row.after.seconds

row_near : (rows : List Transition) (place : ℕ)
    → IsRowNear (change_at (map transition_text rows) place)
unfolding IsRowNear
row_near [] place = (
  (omega (arith, signed_arith), omega (arith, signed_arith)),
  (omega (arith, signed_arith), omega (arith, signed_arith)),
)
row_near (row ∷ rows) zero = (row.before.in_range, row.after.offset.in_range)
row_near (row ∷ rows) (suc place) = row_near rows place

change_near : (row : TransitionText) → IsRowNear row → IsNear (change_reading row)
unfolding IsRowNear
change_near row near =
    either_near (int_lt row.before row.after.seconds) (Gap row.before row.after.seconds)
    (Fold row.before row.after.seconds) near near

offset_near : (none : Bool) (first : Offset) (row : TransitionText) → IsRowNear row →
    IsWithin 93_599 (cond none first.seconds row.after.seconds)
unfolding IsRowNear
offset_near true first row near = first.in_range
offset_near false first row near = near.1

rule_after_near : (here : Bool) (rule : Option TimeZone) (offset second : ℤ) →
    IsWithin 93_599 offset →
    IsNear (match_some (cond here (option_map tz_view rule) None) (Once offset)
    (λ text. rule_reading text second))
rule_after_near true None offset second near = near
rule_after_near true (Some rule) offset second near = rule_near rule second
rule_after_near false rule offset second near = near

table_near : (z : Tzif) (count : ℕ) (second : ℤ)
    → IsNear (table_reading_by (tzif_view z) count second)
table_near z count second =
    let rows = map transition_text z.transitions.items in
    let row = change_at rows (count - 1) in
    let near = row_near z.transitions.items (count - 1) in
    either_near (goes_on rows count second) (change_reading row)
    (reading_after (tzif_view z) count second) (change_near row near)
    (rule_after_near (nat_eq count (length rows)) z.posix_tz
    (offset_after (type_view z.first) rows count) second
    (offset_near (nat_eq count 0) z.first.offset row near))

-- a zone's clock is less than 26 hours from UTC
pub kind_near : (kind : Kind) (second : ℤ)
    → IsWithin 93_599 (instant_at (kind_text kind) second -ℤ second)
unfolding reading_at
kind_near (Kinds.Rule rule) second =
    instant_near second (rule_reading (tz_view rule) second) (rule_near rule second)
kind_near (Kinds.Table table) second = instant_near second (table_reading (tzif_view table) second)
    (table_near table (changes_by (map transition_text table.transitions.items) second) second)
