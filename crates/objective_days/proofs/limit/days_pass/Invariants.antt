use Rattle.std.proofs.Common.{◌≡◌, ◌≤◌, ◌++◌, List, take}
use Rattle.slo_limits.specs.declared.TheConstants.{MAX_DAYS}
use Rattle.sample_book.specs.declared.Row.{Row}
use Rattle.sample_book.specs.Rows.{current_rows}
use Rattle.office_history.specs.Batches.{objective_days}
use Rattle.objective_days.specs.Days.{BringDays}
use Rattle.objective_days.proofs.limit.days_pass.Given as goal

-- the pairs of the members so far, which are within the limit
pub record SoFar (P Q : Type 0) : Type 0 where
  pub counted : P
  pub within : Q

abbrev pub invariant-loop-member : goal.invariant-loop-member
invariant-loop-member l = SoFar ((more : List Row) → BringDays l.book.rows more l.new
    → l.total ≡ objective_days (take l.member-index l.members)
    (current_rows (l.book.rows ++ more))) (l.total ≤ MAX_DAYS)
