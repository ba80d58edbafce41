-- What a command answers on the bytes of its input.
use Rattle.std.specs.Prelude.{◌≡◌, ℕ, List, Option, Some, None, Result, Ok, Err, ⊤}
use Rattle.budget_command.specs.Answer.{IsBudgetAnswer}
use Rattle.check_command.specs.Answer.{IsCheckAnswer}
use Rattle.command_words.specs.declared.InputCommand.{InputCommand}
use Rattle.command_words.specs.declared.InputCommand.TheVariants.{Budget, Check}
use Rattle.office_run.specs.declared.ending.RunRefusal.{RunRefusal}
use Rattle.office_run.specs.declared.ending.RunRefusal.TheVariants as refusals

-- an answer of a command whose faults are refusals of this kind
abbrev pub IsOwnAnswer : {F : Type 0} → (F → RunRefusal) → (Result (List ℕ) F → Type 0) →
    Result (List ℕ) RunRefusal → Type 0
IsOwnAnswer refusal_of IsIts (Ok text) = IsIts (Ok text)
IsOwnAnswer {F} refusal_of IsIts (Err refusal) =
    (fault : F) × IsIts (Err fault) × (refusal ≡ refusal_of fault)

-- the answer of a command
abbrev pub IsAnswer : InputCommand → List ℕ → Result (List ℕ) RunRefusal → Type 0
IsAnswer (Budget order) bytes answer =
    IsOwnAnswer refusals.Budget (IsBudgetAnswer order bytes) answer
IsAnswer Check bytes answer = IsOwnAnswer refusals.Check (IsCheckAnswer bytes) answer

-- the answer on the bytes that a source has left, where it tells them
abbrev pub Answers : InputCommand → Option (List ℕ) → Result (List ℕ) RunRefusal → Type 0
Answers command None answer = ⊤
Answers command (Some bytes) answer = IsAnswer command bytes answer
