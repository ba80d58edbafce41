use Rattle.zone_calendar.proofs.StartLemmas.{uncounted_later}
use Rattle.zone_calendar.proofs.laws.an_uncounted_start_is_at_the_horizon_or_after.Goals as goal

pub returns : goal.returns
returns c = uncounted_later
