use Rattle.history_answers.proofs.LawLemmas.{one_answer}
use Rattle.history_answers.proofs.laws.each_query_has_one_answer.Goals as goal

pub returns : goal.returns
returns c = one_answer
