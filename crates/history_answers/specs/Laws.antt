-- What holds of all answers.
use Rattle.std.specs.Prelude.{◌≡◌, ℕ}
use Rattle.record_form.specs.declared.Outcome.{Outcome}
use Rattle.record_form.specs.declared.Query.{Query}
use Rattle.office_history.specs.History.{Office}
use Rattle.office_history.specs.Answers.{Answers}

-- two outcomes that answer one query over one office at one moment are the same
abbrev pub EachQueryHasOneAnswer : Type 0
EachQueryHasOneAnswer =
    (o : Office) (moment : ℕ) (query : Query) (a b : Outcome) → Answers o moment query a
    → Answers o moment query b → a ≡ b
