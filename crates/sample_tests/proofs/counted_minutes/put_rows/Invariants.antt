use Rattle.std.proofs.Common.{◌≤◌, ◌+◌, drop, length}
use Rattle.std.specs.List.{AllByRecursion}
use Rattle.sample_book.specs.History.{MayComeAll}
use Rattle.sample_tests.specs.Events.{HasEvents}
use Rattle.sample_tests.proofs.counted_minutes.put_rows.Given as goal

-- the rows that are left may come, and all rows are rows of events
pub record SoFar (P Q R S : Type 0) : Type 0 where
  pub may : P
  pub left : Q
  pub held : R
  pub few : S

abbrev pub invariant-loop-row : goal.invariant-loop-row
invariant-loop-row l = SoFar (MayComeAll l.book.rows l.book.room (drop l.row-index l.rows))
    (AllByRecursion HasEvents (drop l.row-index l.rows))
    (AllByRecursion HasEvents l.book.rows)
    (length l.book.rows ≤ length l.fn.book.rows + l.row-index)
