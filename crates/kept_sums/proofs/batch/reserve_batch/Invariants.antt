use Rattle.std.proofs.Common.{List, Bool, take}
use Rattle.std.specs.List.{AllByRecursion}
use Rattle.sample_book.specs.declared.Exclusion.{Exclusion}
use Rattle.sample_book.specs.declared.Row.{Row}
use Rattle.kept_sums.specs.Sums.{HasItsDay, SumsAreKept}
use Rattle.kept_sums.proofs.batch.reserve_batch.Given as goal

-- the days of the rows so far are there
abbrev pub invariant-loop-row : goal.invariant-loop-row
invariant-loop-row l = record {
  days : AllByRecursion (HasItsDay l.measure l.sums) (take l.row-index l.rows);
  kept : (made : List (Exclusion × Bool)) (before : List Row)
      → SumsAreKept l.measure made before l.fn.sums → SumsAreKept l.measure made before l.sums;
}
