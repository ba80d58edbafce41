use Rattle.export_heard.proofs.Exports.{parts_heard}
use Rattle.export_heard.proofs.laws.an_export_is_heard_as_its_requests.Goals as goal

pub returns : goal.returns
returns c = parts_heard c.changes_are_heard_as_themselves.ensures
