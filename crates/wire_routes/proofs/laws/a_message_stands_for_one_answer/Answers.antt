use Rattle.wire_routes.proofs.RouteLemmas.{one_answer}
use Rattle.wire_routes.proofs.laws.a_message_stands_for_one_answer.Goals as goal

pub returns : goal.returns
returns c = one_answer
