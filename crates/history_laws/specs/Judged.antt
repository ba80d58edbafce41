-- What becomes of a command is one judgement.
use Rattle.std.specs.Prelude.{◌≡◌, ℕ}
use Rattle.record_form.specs.declared.Command.{Command}
use Rattle.office_history.specs.declared.Judgement.{Judgement}
use Rattle.office_history.specs.History.{Office}
use Rattle.office_history.specs.Judges.{Judges}

-- a command that comes at a moment has no two judgements
abbrev pub OneJudgement : Type 0
OneJudgement = (o : Office) (moment : ℕ) (command : Command) (a b : Judgement) →
    Judges o moment command a → Judges o moment command b → a ≡ b
