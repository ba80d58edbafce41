use Rattle.office_keep.proofs.Histories as lemmas
use Rattle.office_keep.proofs.laws.one_damage.Goals as goal

pub returns : goal.returns
returns c = lemmas.one_damage
