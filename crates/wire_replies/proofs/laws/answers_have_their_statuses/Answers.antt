use Rattle.wire_replies.proofs.OutcomeLemmas.{status_is}
use Rattle.wire_replies.proofs.laws.answers_have_their_statuses.Goals as goal

pub returns : goal.returns
returns c = status_is
