use Rattle.std.proofs.Common.{◌≡◌, ◌++◌, drop}
use Rattle.office_history.specs.Answers.{budget_rows}
use Rattle.kept_lines.specs.Sums.{samples_of}
use Rattle.history_answers.proofs.budget_list.budget_rows.Given as goal

pub record SoFar (P Q : Type 0) : Type 0 where
  pub number : P
  pub rows : Q

abbrev pub invariant-loop-measure : goal.invariant-loop-measure
invariant-loop-measure l = SoFar
    (l.number ≡ l.measure-index)
    (l.rows.items ++ budget_rows
    (samples_of l.derived.book) l.from l.at l.number (drop l.measure-index l.measures)
    ≡ budget_rows (samples_of l.derived.book) l.from l.at 0 l.measures)
