-- What `budget` takes of its source, and what it answers on the bytes that are left there.
use Rattle.std.specs.Prelude.{◌≡◌, ℕ, ◌<◌, ◌≤◌, List, length, Option, Some, None, Result, ⊤}
use Rattle.csv_records.specs.Records.{csv_records}
use Rattle.office_outside.specs.Told.{Lost}
use Rattle.budget_command.specs.Answer.{IsBudgetAnswer}
use Rattle.budget_command.specs.Tables.{HasJudged, HasJudgedTo}
use Rattle.budget_command.specs.declared.fault.BudgetFault.{BudgetFault}
use Rattle.budget_command.specs.declared.TheConstants.{MAX_INPUT_BYTES}
use Rattle.budget_command.specs.declared.judging.Judging.{Judging}
use Rattle.budget_command.specs.declared.order.BudgetOrder.{BudgetOrder}

-- the answer on the bytes that a source has left, where it tells them
abbrev pub AnswersBudget : BudgetOrder → Option (List ℕ) → Result (List ℕ) BudgetFault → Type 0
AnswersBudget order None answer = ⊤
AnswersBudget order (Some bytes) answer = IsBudgetAnswer order bytes answer

-- more bytes than this are left
abbrev pub HasMore : ℕ → Option (List ℕ) → Type 0
HasMore most None = ⊤
HasMore most (Some left) = most < length left

-- the source lost these bytes from its front, and they are no more than that
pub record TakesAtMost (most : ℕ) (old new : Option (List ℕ)) : Type 0 where
  pub bytes : List ℕ
  pub lost : Lost bytes old new
  pub few : length bytes ≤ most

-- the records of all bytes that were left are judged, and those bytes are not too many
abbrev pub HasJudgedAll : Option (List ℕ) → Judging → Type 0
HasJudgedAll None judging = ⊤
HasJudgedAll (Some bytes) judging =
    (length bytes ≤ MAX_INPUT_BYTES) × HasJudged (csv_records bytes) judging

-- So many bytes were taken of a source, and their records judged but for those that wait.
pub record HasTakenBytes (old now : Option (List ℕ)) (taken : ℕ) (waiting : List ℕ)
    (judging : Judging) : Type 0 where
  pub seen : List ℕ
  pub lost : Lost seen old now
  pub count : length seen ≡ taken
  pub judged : HasJudgedTo seen waiting judging
