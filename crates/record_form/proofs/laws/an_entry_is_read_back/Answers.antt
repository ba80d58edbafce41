use Rattle.record_form.proofs.HistoryLemmas.{back_in_front}
use Rattle.record_form.proofs.laws.an_entry_is_read_back.Goals as goal

pub returns : goal.returns
returns c = back_in_front
