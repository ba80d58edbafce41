use Rattle.message_heads.proofs.StreamLemmas.{one_stream}
use Rattle.message_heads.proofs.laws.a_message_begins_one_stream.Goals as goal

pub returns : goal.returns
returns c = one_stream
