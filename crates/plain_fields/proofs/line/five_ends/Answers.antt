use Rattle.std.proofs.Common.{arith}
use Rattle.plain_fields.proofs.ReadLemmas.{five_from}
use Rattle.plain_fields.proofs.line.five_ends.Goals as goal

pub returns : goal.returns
returns c = five_from c.args.text.now c.args.from _ c.field_ends.new.ends (omega arith)
    c.in_ok-field_ends.ensures
