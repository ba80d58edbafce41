use Rattle.csv_records.specs.Records.{csv_records}
use Rattle.budget_command.proofs.JudgingLemmas.{judged-broken}
use Rattle.budget_command.proofs.judging.Judging.judge_part.Goals as goal

pub returns-in-Some : goal.returns-in-Some
returns-in-Some c = λ before judged.
    judged-broken before (csv_records c.args.part.now) c.args.self.now _ c.in-Some.is judged
