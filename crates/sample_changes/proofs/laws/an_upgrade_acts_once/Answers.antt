use Rattle.sample_changes.proofs.Upgrades.{upgrade_once}
use Rattle.sample_changes.proofs.laws.an_upgrade_acts_once.Goals as goal

pub returns : goal.returns
returns c = upgrade_once
