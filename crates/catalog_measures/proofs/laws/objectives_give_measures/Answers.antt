use Rattle.catalog_measures.proofs.ByName.{objective_measure}
use Rattle.catalog_measures.proofs.laws.objectives_give_measures.Goals as goal

pub returns : goal.returns
returns c = objective_measure
