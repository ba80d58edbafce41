use Rattle.slo_catalog.proofs.OneCatalog.{one_catalog}
use Rattle.slo_catalog.proofs.laws.a_history_has_one_catalog.Goals as goal

pub returns : goal.returns
returns c = one_catalog
