use Rattle.notice_box.proofs.ListLemmas.{takings-law}
use Rattle.notice_box.proofs.laws.takings_are_few.Goals as goal

pub returns : goal.returns
returns c = takings-law
