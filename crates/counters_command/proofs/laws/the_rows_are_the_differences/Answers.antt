use Rattle.counters_command.proofs.LawLemmas.{rows-are}
use Rattle.counters_command.proofs.laws.the_rows_are_the_differences.Goals as goal

pub returns : goal.returns
returns c = rows-are
