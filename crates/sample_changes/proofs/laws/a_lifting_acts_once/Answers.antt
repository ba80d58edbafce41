use Rattle.sample_changes.proofs.OnceExclusions.{lift_once}
use Rattle.sample_changes.proofs.laws.a_lifting_acts_once.Goals as goal

pub returns : goal.returns
returns c = lift_once
