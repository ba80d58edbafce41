-- What the two kinds of a zone say, and what jiff's answer for a civil moment says.
use Rattle.jiff_tz.specs.PosixText.{tz_view}
use Rattle.jiff_tz.specs.Tzif.{tzif_view}
use Rattle.jiff_tz.specs.declared.ambiguous.AmbiguousOffset.{AmbiguousOffset}
use Rattle.jiff_tz.specs.declared.ambiguous.AmbiguousOffset.TheVariants as Offsets
use Rattle.zone_calendar.specs.Zone.{ZoneText, Rule, Table, Reading, Once, Gap, Fold}
use Rattle.zone_calendar.specs.declared.zone.Kind.{Kind}
use Rattle.zone_calendar.specs.declared.zone.Kind.TheVariants as Kinds

-- the text of a zone of that kind
abbrev pub kind_text : Kind → ZoneText
kind_text (Kinds.Rule rule) = Rule (tz_view rule)
kind_text (Kinds.Table table) = Table (tzif_view table)

-- the offsets of a civil moment, as seconds
abbrev pub reading_of : AmbiguousOffset → Reading
reading_of (Offsets.Unambiguous offset) = Once offset.seconds
reading_of (Offsets.Gap before after) = Gap before.seconds after.seconds
reading_of (Offsets.Fold before after) = Fold before.seconds after.seconds
