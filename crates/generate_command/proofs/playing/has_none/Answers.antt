use Rattle.std.proofs.Common.{◌∙◌, ap, not}
use Rattle.generate_command.proofs.Nowhere.{none_found}
use Rattle.generate_command.proofs.playing.has_none.Goals as goal

pub returns : goal.returns
returns c none =
    none_found c.args.bytes.now c.args.piece.now c.find.result c.find.ensures
    (c.is_none.ensures ∙ ap not none)
