use Rattle.sample_changes.proofs.OnceExclusions.{exclude_once}
use Rattle.sample_changes.proofs.laws.an_exclusion_acts_once.Goals as goal

pub returns : goal.returns
returns c = exclude_once
