use Rattle.history_laws.proofs.OldLemmas.{old_histories_stay_legal}
use Rattle.history_laws.proofs.laws.an_old_history_stays_legal.Goals as goal

pub returns : goal.returns
returns c = old_histories_stay_legal
