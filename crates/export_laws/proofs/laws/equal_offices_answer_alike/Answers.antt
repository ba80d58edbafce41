use Rattle.export_laws.proofs.AnswerLemmas.{same_answers}
use Rattle.export_laws.proofs.Again.{same_moves, same_sums, same_alerts, same_states}
use Rattle.export_laws.proofs.laws.equal_offices_answer_alike.Goals as goal

pub returns-clause-moves : goal.returns-clause-moves
returns-clause-moves c = same_moves

pub returns-clause-sums : goal.returns-clause-sums
returns-clause-sums c = same_sums

pub returns-clause-alerts : goal.returns-clause-alerts
returns-clause-alerts c = same_alerts

pub returns-clause-states : goal.returns-clause-states
returns-clause-states c = same_states

pub returns-clause-answers : goal.returns-clause-answers
returns-clause-answers c = same_answers
