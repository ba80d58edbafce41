use Rattle.plain_fields.proofs.PlaceLemmas.{first_line}
use Rattle.plain_fields.proofs.places.begins_as_line.Goals as goal

pub returns : goal.returns
returns c = λ yes. first_line c.args.text.now c.if-first.false
