use Rattle.std.proofs.Common.{◌≡◌, ◌++◌}
use Rattle.sample_book.specs.Rows.{current_rows}
use Rattle.kept_sums.specs.Sums.{SumsAreKept}
use Rattle.kept_sums.specs.Objectives.{made_for, measures_of}
use Rattle.kept_sums.specs.declared.kept.ObjectiveSums.{ObjectiveSums}
use Rattle.kept_sums.proofs.FollowNeeds.{MayFollow}
use Rattle.kept_sums.proofs.Loops.{HalfDone}
use Rattle.kept_sums.proofs.follow.count_all.Given as goal

-- the first objectives have followed the rows, the others may still
abbrev pub invariant-loop-kept : goal.invariant-loop-kept
invariant-loop-kept l = record {
  followed : HalfDone (MayFollow (made_for l.pool l.book.exclusions) l.book.rows l.rows)
      (λ (k : ObjectiveSums). SumsAreKept k.measure (made_for l.pool l.book.exclusions)
      (current_rows (l.book.rows ++ l.rows)) k.sums) l.kept-index l.kept-items;
  measures : measures_of l.kept-items ≡ measures_of l.initial.kept-items;
}
