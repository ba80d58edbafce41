use Rattle.record_form.proofs.HistoryLemmas.{add_up}
use Rattle.record_form.proofs.laws.records_add_up.Goals as goal

pub returns : goal.returns
returns c = add_up
