use Rattle.record_form.proofs.HistoryLemmas.{one_more}
use Rattle.record_form.proofs.laws.one_record_more.Goals as goal

pub returns : goal.returns
returns c = one_more
