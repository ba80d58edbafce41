use Rattle.record_form.proofs.SizeLemmas.{upgrades_have_their_kind}
use Rattle.record_form.proofs.laws.an_upgrade_has_its_kind.Goals as goal

pub returns : goal.returns
returns c = upgrades_have_their_kind
