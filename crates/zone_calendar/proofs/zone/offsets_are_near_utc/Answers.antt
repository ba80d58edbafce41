use Rattle.zone_calendar.proofs.NearLemmas.{kind_near}
use Rattle.zone_calendar.proofs.zone.offsets_are_near_utc.Goals as goal

pub returns : goal.returns
returns c = kind_near c.args.kind.now
