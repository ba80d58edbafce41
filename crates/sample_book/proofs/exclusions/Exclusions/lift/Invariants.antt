use Rattle.std.proofs.Common.{◌≡◌, ◌++◌, drop, take}
use Rattle.sample_book.specs.Exclusions.{after_lifting}
use Rattle.sample_book.proofs.exclusions.Exclusions.lift.Given as goal

-- those so far are lifted, the others as they were
abbrev pub invariant-loop-kept : goal.invariant-loop-kept
invariant-loop-kept l = l.kept-items ≡ after_lifting (take l.kept-index l.initial.kept-items) l.id
    ++ drop l.kept-index l.initial.kept-items
