use Rattle.std.proofs.Common.{◌≡◌, drop}
use Rattle.sample_book.specs.Exclusions.{exclusion_of}
use Rattle.sample_book.proofs.exclusions.Exclusions.find.Given as goal

-- none so far is the one
abbrev pub invariant-loop-kept : goal.invariant-loop-kept
invariant-loop-kept l =
    exclusion_of (drop l.kept-index l.kept-items) l.id ≡ exclusion_of l.kept-items l.id
