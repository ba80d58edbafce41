use Rattle.history_laws.proofs.OldLemmas.{old_requests_keep_their_outcomes}
use Rattle.history_laws.proofs.laws.an_old_request_keeps_its_outcome.Goals as goal

pub returns : goal.returns
returns c = old_requests_keep_their_outcomes
