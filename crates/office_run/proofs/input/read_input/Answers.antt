use Rattle.std.proofs.Common.{◌+◌, arith}
use Rattle.std.proofs.lemmas.Grind.{common_steps}
use Rattle.office_run.proofs.InputLemmas.{takes_piece}
use Rattle.office_run.proofs.input.read_input.Goals as goal

pub returns-then-is_err-clause-takes : goal.returns-then-is_err-clause-takes
returns-then-is_err-clause-takes g c =
    takes_piece (c.args.most + 1) c.in-Ok.count c.reading.bytes.items c.read.new.piece _ _ _
    c.reading.invariant.lost c.in-Ok.ensures.bytes
    (grind (arith, common_steps, c.in-Ok.ensures.count, c.read.auto.piece))
