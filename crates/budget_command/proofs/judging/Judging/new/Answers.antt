use Rattle.budget_command.proofs.JudgingLemmas.{judged-none}
use Rattle.budget_command.proofs.judging.Judging.new.Goals as goal

pub returns : goal.returns
returns c = judged-none c.new-table.result _ c.new-table.ensures
