use Rattle.record_form.proofs.HistoryLemmas.{no_other}
use Rattle.record_form.proofs.laws.no_record_begins_another.Goals as goal

pub returns : goal.returns
returns c = no_other
