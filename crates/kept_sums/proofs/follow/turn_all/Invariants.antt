use Rattle.std.proofs.Common.{◌≡◌, not}
use Rattle.kept_sums.specs.Sums.{SumsAreKept}
use Rattle.kept_sums.specs.Walks.{made_on}
use Rattle.kept_sums.specs.Objectives.{measures_of}
use Rattle.kept_sums.specs.declared.kept.ObjectiveSums.{ObjectiveSums}
use Rattle.kept_sums.proofs.FollowNeeds.{MayTurn}
use Rattle.kept_sums.proofs.Loops.{HalfDone}
use Rattle.kept_sums.proofs.follow.turn_all.Given as goal

-- the first objectives have followed the exclusion, the others may still
abbrev pub invariant-loop-kept : goal.invariant-loop-kept
invariant-loop-kept l = record {
  followed : HalfDone (MayTurn (made_on l.book.exclusions l.value (not l.taken)) l.book.rows)
      (λ (k : ObjectiveSums). SumsAreKept k.measure (made_on l.book.exclusions l.value l.taken)
      l.book.rows k.sums) l.kept-index l.kept-items;
  measures : measures_of l.kept-items ≡ measures_of l.initial.kept-items;
}
