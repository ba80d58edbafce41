use Rattle.std.proofs.Common.{◌≡◌, ◌++◌, drop}
use Rattle.office_history.specs.Answers.{budget_rows, counted_until, window_rows}
use Rattle.kept_lines.specs.Sums.{samples_of}
use Rattle.history_answers.specs.Starts.{AreOpen}
use Rattle.history_answers.proofs.window_list.rows_of.Given as goal

-- the rows so far, and those of the windows that are left
pub record SoFar (P Q : Type 0) : Type 0 where
  pub rows : P
  pub begun : Q

abbrev pub invariant-loop-place : goal.invariant-loop-place
invariant-loop-place l = SoFar
    (l.rows.items ++ window_rows (λ from to. budget_rows
    (samples_of l.derived.book) from (counted_until l.moment to) 0 l.measures)
    (drop l.place l.starts) l.next
    ≡ window_rows (λ from to. budget_rows
    (samples_of l.derived.book) from (counted_until l.moment to) 0 l.measures) l.starts l.next)
    (AreOpen l.moment (drop l.place l.starts) l.next)
