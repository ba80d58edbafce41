use Rattle.zone_calendar.proofs.CivilReadLemmas.{read_as_moment}
use Rattle.object_fields.proofs.moments.civil_at.Goals as goal

pub returns : goal.returns
returns c = read_as_moment c.read_civil.result c.args.text.now c.read_civil.ensures.read
    c.read_civil.ensures.all
