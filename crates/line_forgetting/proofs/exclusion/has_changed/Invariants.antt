use Rattle.sample_book.specs.LastRows.{is_on}
use Rattle.window_sums.specs.Slices.{day_of}
use Rattle.kept_sums.specs.Walks.{IsOnKey, rows_until}
use Rattle.line_forgetting.proofs.ChangedLemmas.{NoneFrom}
use Rattle.line_forgetting.proofs.exclusion.has_changed.Given as goal

-- no row behind a place is changed
abbrev pub invariant-loop-next : goal.invariant-loop-next
invariant-loop-next l = record {
  place : IsOnKey (is_on l.measure.sli (day_of l.from)) l.book.rows l.next;
  none : NoneFrom l.measure l.book.exclusions l.value l.book.rows l.from l.to (rows_until l.next);
}

abbrev pub decreases-loop-next : goal.decreases-loop-next
decreases-loop-next l = rows_until l.next
