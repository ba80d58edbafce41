use Rattle.history_laws.proofs.DayLemmas.{days_are_few}
use Rattle.history_laws.proofs.laws.legal_days_are_few.Goals as goal

pub returns : goal.returns
returns c = days_are_few
