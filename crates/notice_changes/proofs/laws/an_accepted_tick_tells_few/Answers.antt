use Rattle.notice_changes.proofs.TickLemmas.{few_told}
use Rattle.notice_changes.proofs.laws.an_accepted_tick_tells_few.Goals as goal

pub returns : goal.returns
returns c = few_told
