use Rattle.burn_core.proofs.ConditionLemmas.{condition-apart}
use Rattle.burn_core.proofs.laws.one_slice_decides_nearby.Goals as goal

pub returns : goal.returns
returns c = condition-apart
