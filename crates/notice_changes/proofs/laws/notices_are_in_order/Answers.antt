use Rattle.notice_changes.proofs.OnceLemmas.{in_order}
use Rattle.notice_changes.proofs.laws.notices_are_in_order.Goals as goal

pub returns : goal.returns
returns c = in_order
