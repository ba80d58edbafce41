-- What holds of all answers.
use Rattle.std.specs.Prelude.{◌≡◌, ℕ, List, Option, Some, None}
use Rattle.record_form.specs.Words.{failure_of}
use Rattle.record_form.specs.declared.outcome.Outcome.{Outcome}
use Rattle.wire_replies.specs.Outcomes.{answer_of}

-- the status by what an outcome failed with
abbrev pub status_by : Option (ℕ × List ℕ) → ℕ
status_by None = 200
status_by (Some failure) = failure.0

-- an outcome that failed is answered with its status, and any other with 200
abbrev pub AnswersHaveTheirStatuses : Type 0
AnswersHaveTheirStatuses = (outcome : Outcome)
    → (answer_of outcome).status ≡ status_by (failure_of outcome)
