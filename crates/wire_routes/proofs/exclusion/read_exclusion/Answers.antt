use Rattle.std.proofs.Common.{rules}
use Rattle.serde_json.specs.View.{view}
use Rattle.wire_routes.proofs.JsonLemmas.{exclusion_some, exclusion_none}
use Rattle.wire_routes.proofs.exclusion.read_exclusion.Goals as goal

pub returns-in-Ok : goal.returns-in-Ok
returns-in-Ok c = exclusion_some c.args.id c.args.body.now (view c.in-Ok.value)
    c.exclusion_in.result c.in-Ok.ensures.ok c.exclusion_in.ensures

pub returns-else-is_memory : goal.returns-else-is_memory
returns-else-is_memory c =
    exclusion_none c.args.id c.args.body.now (c.in-Err.ensures.err (search rules))
