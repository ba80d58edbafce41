use Rattle.std.proofs.Common.{refl}
use Rattle.zone_calendar.proofs.StartLemmas.{moment_of_date}
use Rattle.zone_calendar.proofs.calendar.moment_after.Goals as goal

pub returns-clause-some : goal.returns-clause-some
returns-clause-some c = moment_of_date c.in_ok-date.date _ c.args.first.now c.args.step c.args.k
    c.in_ok-date.ensures.some refl refl refl refl
