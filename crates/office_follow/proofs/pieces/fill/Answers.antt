use Rattle.follow_terms.specs.Follows.{no_memory, read_fault}
use Rattle.office_follow.proofs.pieces.fill.Goals as goal

pub returns-in_default-clause-outside : goal.returns-in_default-clause-outside
returns-in_default-clause-outside g c = read_fault

pub returns-then-is_err-clause-outside : goal.returns-then-is_err-clause-outside
returns-then-is_err-clause-outside g c = no_memory
