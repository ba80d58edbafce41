use Rattle.std.proofs.Common.{inl}
use Rattle.follow_terms.specs.Follows.{no_memory}
use Rattle.office_follow.proofs.entries.read_entry.Goals as goal

pub returns-in-Err-clause-lacks : goal.returns-in-Err-clause-lacks
returns-in-Err-clause-lacks c = inl no_memory
