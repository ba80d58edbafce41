use Rattle.std.proofs.Common.{sym}
use Rattle.object_fields.proofs.TextLemmas.{name_read}
use Rattle.object_fields.proofs.scalars.read_name.Goals as goal

pub returns-in-None : goal.returns-in-None
returns-in-None c =
    name_read c.args.text.now _ (sym c.if-not-is_object_name.ensures) c.in-None.ensures
