use Rattle.wire_routes.proofs.RouteLemmas.{some_answer}
use Rattle.wire_routes.proofs.laws.a_message_stands_for_something.Goals as goal

pub returns : goal.returns
returns c = some_answer
