use Rattle.zone_calendar.proofs.OneListLemmas.{one_list}
use Rattle.zone_calendar.proofs.laws.starts_are_one_list.Goals as goal

pub returns : goal.returns
returns c = one_list
