use Rattle.zone_calendar.proofs.ListLemmas.{of_list}
use Rattle.zone_calendar.proofs.laws.the_last_start_is_that_of_the_list.Goals as goal

pub returns : goal.returns
returns c = of_list
