use Rattle.notice_changes.proofs.OnceLemmas.{taking_once}
use Rattle.notice_changes.proofs.laws.a_taking_acts_once.Goals as goal

pub returns : goal.returns
returns c = taking_once
