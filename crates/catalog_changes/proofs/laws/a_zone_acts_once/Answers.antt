use Rattle.catalog_changes.proofs.LegalLemmas.{zone_acts_once}
use Rattle.catalog_changes.proofs.laws.a_zone_acts_once.Goals as goal

pub returns : goal.returns
returns c = zone_acts_once
