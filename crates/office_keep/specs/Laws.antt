-- Laws of histories and of the files that stand for them.
use Rattle.std.specs.Prelude.{◌≡◌, ℕ, List}
use Rattle.std.specs.List.{AllByRecursion}
use Rattle.record_form.specs.declared.Command.{Command}
use Rattle.record_form.specs.Ranges.{FitsRecord}
use Rattle.office_history.specs.declared.Judgement.{Judgement}
use Rattle.office_history.specs.History.{Office}
use Rattle.office_history.specs.Judges.{Judges}
use Rattle.office_keep.specs.Files.{IsDamagedAt, StandsFor}

-- A command has one judgement at a moment.
abbrev pub OneJudgement : Type 0
OneJudgement = (o : Office) (moment : ℕ) (command : Command) (a b : Judgement) →
    Judges o moment command a → Judges o moment command b → a ≡ b

-- A file stands for one history at most whose entries have records.
abbrev pub OneHistory : Type 0
OneHistory = (o p : Office) (file : List ℕ) →
    StandsFor o file → AllByRecursion FitsRecord o.history →
    StandsFor p file → AllByRecursion FitsRecord p.history → o ≡ p

-- A file is damaged at one place at most.
abbrev pub OneDamage : Type 0
OneDamage = (at other : ℕ) (file : List ℕ) →
    IsDamagedAt at file → IsDamagedAt other file → at ≡ other
