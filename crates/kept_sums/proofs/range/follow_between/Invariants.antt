use Rattle.std.proofs.Common.{◌≡◌, ℕ}
use Rattle.sample_book.specs.LastRows.{is_on}
use Rattle.window_sums.specs.Slices.{day_of, has_day}
use Rattle.kept_sums.specs.Walks.{IsWalking, followed, rows_until}
use Rattle.kept_sums.proofs.range.follow_between.Given as goal

-- the rows of the minutes behind a place count as they will, the others as they did
abbrev pub invariant-loop-next : goal.invariant-loop-next
invariant-loop-next l = record {
  walking : IsWalking (is_on l.measure.sli (day_of l.from))
      (followed l.measure l.book.exclusions l.value l.taken l.from)
      (followed l.measure l.book.exclusions l.value l.taken l.to) l.book.rows l.next l.sums;
  method : l.sums.method ≡ l.fn.sums.method;
  days : (day : ℕ) → has_day l.sums day ≡ has_day l.fn.sums day;
}

abbrev pub decreases-loop-next : goal.decreases-loop-next
decreases-loop-next l = rows_until l.next
