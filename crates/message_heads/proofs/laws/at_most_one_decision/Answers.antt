use Rattle.message_heads.proofs.LawLemmas.{one}
use Rattle.message_heads.proofs.laws.at_most_one_decision.Goals as goal

pub returns : goal.returns
returns c = one
