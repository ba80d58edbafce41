use Rattle.record_form.proofs.HistoryLemmas.{history_again}
use Rattle.record_form.proofs.laws.a_history_is_read_back.Goals as goal

pub returns : goal.returns
returns c = history_again
