use Rattle.counters_command.proofs.LawLemmas.{done-is}
use Rattle.counters_command.proofs.laws.what_is_done_is_the_differences.Goals as goal

pub returns : goal.returns
returns c = done-is
