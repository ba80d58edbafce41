use Rattle.std.proofs.Common.{List, ℕ, Option, subst, sym}
use Rattle.office_outside.specs.Told.{GainedPrefix}
use Rattle.office_outside.proofs.Gains.{gained_is_prefix}
use Rattle.office_export.specs.Export.{part_text}
use Rattle.journal_commands.proofs.exporting.export_over.Goals as goal

-- what was written whole and not passed on is a prefix of itself
pub returns-in-Err-flush-clause-exports : goal.returns-in-Err-flush-clause-exports
returns-in-Err-flush-clause-exports g c =
    let held = g.K.Sink.held in
    let text : List ℕ = part_text c.args.part c.args.core.now.office in
    let Part : Option (List ℕ) → Type 0 = λ new.
    GainedPrefix text (held c.args.output.now) new in
    subst Part (sym c.flush.ensures.kept)
    (gained_is_prefix text (held c.args.output.now) (held c.export_core.new.output)
    c.in-Ok.ensures.exports.1)
