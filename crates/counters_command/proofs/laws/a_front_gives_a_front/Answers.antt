use Rattle.counters_command.proofs.LawLemmas.{front-is}
use Rattle.counters_command.proofs.laws.a_front_gives_a_front.Goals as goal

pub returns : goal.returns
returns c = front-is
