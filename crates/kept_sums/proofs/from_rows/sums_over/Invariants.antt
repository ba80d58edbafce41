use Rattle.std.proofs.Common.{◌≡◌, drop}
use Rattle.std.specs.List.{AllByRecursion}
use Rattle.sample_book.specs.Counting.{is_of}
use Rattle.window_sums.specs.Slices.{no_counts}
use Rattle.kept_sums.specs.Objectives.{made_for}
use Rattle.kept_sums.specs.Sums.{HasItsDay, row_counts}
use Rattle.kept_sums.specs.Walks.{IsWalking, rows_until}
use Rattle.kept_sums.proofs.from_rows.sums_over.Given as goal

-- the rows of the indicator behind a place count, and their days are there
abbrev pub invariant-loop-next : goal.invariant-loop-next
invariant-loop-next l = record {
  walking : IsWalking (is_of l.measure.sli) (λ row. no_counts)
      (row_counts l.measure (made_for l.pool l.book.exclusions)) l.book.rows l.next l.sums;
  method : l.sums.method ≡ l.measure.method;
  days : AllByRecursion (HasItsDay l.measure l.sums) (drop (rows_until l.next) l.book.rows);
}

abbrev pub decreases-loop-next : goal.decreases-loop-next
decreases-loop-next l = rows_until l.next
