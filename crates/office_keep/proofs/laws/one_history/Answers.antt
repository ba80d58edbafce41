use Rattle.office_keep.proofs.Histories as lemmas
use Rattle.office_keep.proofs.laws.one_history.Goals as goal

pub returns : goal.returns
returns c = lemmas.one_history c.no_record_begins_another.ensures
