use Rattle.record_form.proofs.HistoryLemmas.{no_bytes}
use Rattle.record_form.proofs.laws.no_bytes_are_no_history.Goals as goal

pub returns : goal.returns
returns c = no_bytes
