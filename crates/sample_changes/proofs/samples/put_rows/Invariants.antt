use Rattle.std.proofs.Common.{◌≡◌, ◌++◌, map, take, drop, List}
use Rattle.sample_book.specs.History.{Came, Arrival, Holds, MayComeAll}
use Rattle.sample_changes.proofs.samples.put_rows.Given as goal

-- the rows that are left may come, those so far have come, and the exclusions stay
pub record SoFar (P Q R : Type 0) : Type 0 where
  pub may : P
  pub held : Q
  pub still : R

abbrev pub invariant-loop-row : goal.invariant-loop-row
invariant-loop-row l = SoFar (MayComeAll l.book.rows l.book.room (drop l.row-index l.rows))
    ((arrivals : List Arrival) → Holds arrivals l.fn.book.rows l.fn.book.exclusions
    → Holds (arrivals ++ map Came (take l.row-index l.rows)) l.book.rows l.book.exclusions)
    (l.book.exclusions ≡ l.fn.book.exclusions)
