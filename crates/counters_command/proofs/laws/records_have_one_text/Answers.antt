use Rattle.counters_command.proofs.OneLemmas.{one-text}
use Rattle.counters_command.proofs.laws.records_have_one_text.Goals as goal

pub returns : goal.returns
returns c = one-text
