use Rattle.notice_changes.proofs.OnceLemmas.{notices_kept}
use Rattle.notice_changes.proofs.laws.notices_stay.Goals as goal

pub returns : goal.returns
returns c = notices_kept
