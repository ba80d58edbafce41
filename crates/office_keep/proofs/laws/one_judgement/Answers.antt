use Rattle.office_keep.proofs.Judgements as lemmas
use Rattle.office_keep.proofs.laws.one_judgement.Goals as goal

pub returns : goal.returns
returns c = lemmas.one_judgement
