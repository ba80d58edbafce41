-- The answer of `budget` as the answer of a command.
use Rattle.std.proofs.Common.{◌≡◌, ℕ, List, sym}
use Rattle.std.specs.Prelude.{Option, Some, None, Result, Err}
use Rattle.budget_command.specs.Input.{AnswersBudget}
use Rattle.budget_command.specs.declared.BudgetFault.{BudgetFault}
use Rattle.budget_command.specs.declared.BudgetOrder.{BudgetOrder}
use Rattle.office_run.specs.Answer.{Answers}
use Rattle.command_words.specs.declared.InputCommand.TheVariants as commands
use Rattle.office_run.specs.declared.ending.RunRefusal.{RunRefusal}
use Rattle.office_run.specs.declared.ending.RunRefusal.TheVariants.{Budget}
use Rattle.office_run.specs.declared.ending.AnswerError.{AnswerError}
use Rattle.office_run.specs.declared.ending.AnswerError.TheVariants.{Refused}

pub budget_refused : {T : Type 0} (order : BudgetOrder) (left : Option (List ℕ))
    (fault : BudgetFault) (refusal : RunRefusal) →
    ◌≡◌ {A = Result T AnswerError} (Err (Refused (Budget fault))) (Err (Refused refusal)) →
    AnswersBudget order left (Err fault) → Answers (commands.Budget order) left (Err refusal)
budget_refused order None fault refusal e answer = tt
budget_refused order (Some bytes) fault refusal e answer =
    let same : Budget fault ≡ refusal = cc e in
    (fault, answer, sym same)
