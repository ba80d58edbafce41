use Rattle.office_counter.proofs.Steps.{step_owned}
use Rattle.office_counter.proofs.laws.own_places_stay.Goals as goal

pub returns : goal.returns
returns c = step_owned
