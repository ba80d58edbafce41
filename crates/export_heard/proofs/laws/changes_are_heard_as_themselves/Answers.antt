use Rattle.export_heard.proofs.Streams.{changes_heard}
use Rattle.export_heard.proofs.laws.changes_are_heard_as_themselves.Goals as goal

pub returns : goal.returns
returns c = changes_heard c.a_message_stands_for_one_answer.ensures
