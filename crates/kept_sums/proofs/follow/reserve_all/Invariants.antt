use Rattle.std.proofs.Common.{◌≡◌, Bool, List}
use Rattle.std.specs.List.{AllByRecursion}
use Rattle.sample_book.specs.declared.Exclusion.{Exclusion}
use Rattle.sample_book.specs.declared.Row.{Row}
use Rattle.kept_sums.specs.Sums.{HasItsDay}
use Rattle.kept_sums.specs.Objectives.{AreKept, measures_of}
use Rattle.kept_sums.specs.declared.kept.ObjectiveSums.{ObjectiveSums}
use Rattle.kept_sums.proofs.Loops.{HalfDone}
use Rattle.kept_sums.proofs.follow.reserve_all.Given as goal

-- the first objectives have the days of the rows
abbrev pub invariant-loop-kept : goal.invariant-loop-kept
invariant-loop-kept l = record {
  days : HalfDone (λ (k : ObjectiveSums). Unit {0})
      (λ (k : ObjectiveSums). AllByRecursion (HasItsDay k.measure k.sums) l.rows)
      l.kept-index l.kept-items;
  kept : (made : List (Exclusion × Bool)) (before : List Row) →
      AreKept made before l.initial.kept-items → AreKept made before l.kept-items;
  measures : measures_of l.kept-items ≡ measures_of l.initial.kept-items;
}
