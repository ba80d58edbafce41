use Rattle.export_heard.proofs.Streams.{nothing_else}
use Rattle.export_heard.proofs.laws.nothing_else_is_heard.Goals as goal

pub returns : goal.returns
returns c = nothing_else
