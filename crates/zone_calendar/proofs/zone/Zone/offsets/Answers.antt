use Rattle.zone_calendar.specs.Zone.{reading_at}
use Rattle.zone_calendar.proofs.RuleLemmas.{ambiguous_at-rule}
use Rattle.zone_calendar.proofs.TableLemmas.{ambiguous_at-table}
use Rattle.zone_calendar.proofs.zone.Zone.offsets.Goals as goal

pub returns-in-Rule : goal.returns-in-Rule
unfolding reading_at
returns-in-Rule c =
    rw (
      c.to_ambiguous_offset.ensures,
      ← c.self.view_is,
      c.in-Rule.is,
    ) (ambiguous_at-rule c.in-Rule.rule c.args.moment c.requires)

pub returns-in-Table : goal.returns-in-Table
unfolding reading_at
returns-in-Table c =
    rw (
      c.to_ambiguous_offset-in-Table.ensures,
      ← c.self.view_is,
      c.in-Table.is,
    ) (ambiguous_at-table c.in-Table.table c.args.moment c.requires)
