use Rattle.kept_lines.proofs.KnownLemmas.{all_know}
use Rattle.history_answers.proofs.answering.answered.Goals as goal

pub returns-in-Objects-clause-know : goal.returns-in-Objects-clause-know
returns-in-Objects-clause-know c = all_know c.args.lines.now.kept

pub returns-in-Object-clause-know : goal.returns-in-Object-clause-know
returns-in-Object-clause-know c = all_know c.args.lines.now.kept

pub returns-in-Budgets-clause-know : goal.returns-in-Budgets-clause-know
returns-in-Budgets-clause-know c = all_know c.args.lines.now.kept

pub returns-in-Burn-clause-know : goal.returns-in-Burn-clause-know
returns-in-Burn-clause-know c = all_know c.args.lines.now.kept

pub returns-in-Notices-clause-know : goal.returns-in-Notices-clause-know
returns-in-Notices-clause-know c = all_know c.args.lines.now.kept

pub returns-in-Entries-clause-know : goal.returns-in-Entries-clause-know
returns-in-Entries-clause-know c = all_know c.args.lines.now.kept

pub returns-in-Row-clause-know : goal.returns-in-Row-clause-know
returns-in-Row-clause-know c = all_know c.args.lines.now.kept

pub returns-in-Exclusions-clause-know : goal.returns-in-Exclusions-clause-know
returns-in-Exclusions-clause-know c = all_know c.args.lines.now.kept

pub returns-in-Zones-clause-know : goal.returns-in-Zones-clause-know
returns-in-Zones-clause-know c = all_know c.args.lines.now.kept

pub returns-in-Status-clause-know : goal.returns-in-Status-clause-know
returns-in-Status-clause-know c = all_know c.args.lines.now.kept

pub returns-in-Sums-clause-know : goal.returns-in-Sums-clause-know
returns-in-Sums-clause-know c = all_know c.args.lines.now.kept

pub returns-in-Windows-clause-know : goal.returns-in-Windows-clause-know
returns-in-Windows-clause-know c = all_know c.args.lines.now.kept
