use Rattle.std.proofs.Common.{subst}
use Rattle.line_forgetting.specs.Moves.{AreTold, IsMovedMinute}
use Rattle.line_forgetting.proofs.StretchLemmas.{nothing-forgets}
use Rattle.line_forgetting.proofs.batch.forget_near_moves.Goals as goal

pub returns-in-Nothing : goal.returns-in-Nothing
returns-in-Nothing c =
    nothing-forgets c.args.measure.now c.args.rows.now c.args.verdicts.now c.args.width
    c.args.line.now (subst (AreTold (IsMovedMinute c.args.measure.now.sli c.args.rows.now
    c.args.verdicts.now)) c.in-Nothing.is c.requires.told)
