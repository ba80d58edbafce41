use Rattle.follow_laws.proofs.Keeping.{keeps}
use Rattle.follow_laws.proofs.laws.following_keeps_what_was_held.Goals as goal

pub returns : goal.returns
returns c = keeps
