use Rattle.budget_command.proofs.BudgetLemmas.{answer-exists, answer-unique}
use Rattle.budget_command.proofs.laws.one_budget_answer.Goals as goal

pub returns-clause-some : goal.returns-clause-some
returns-clause-some c = answer-exists

pub returns-clause-only : goal.returns-clause-only
returns-clause-only c = answer-unique
