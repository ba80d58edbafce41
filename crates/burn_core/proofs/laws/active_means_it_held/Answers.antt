use Rattle.burn_core.proofs.TimelineLemmas.{active-law}
use Rattle.burn_core.proofs.laws.active_means_it_held.Goals as goal

pub returns : goal.returns
returns c = active-law
