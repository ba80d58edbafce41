use Rattle.std.proofs.Common.{◌∙◌, sym}
use Rattle.exact_fraction.proofs.WordOrder.{label-inline}
use Rattle.exact_fraction.proofs.label.read_label.Goals as goal

pub copy_of-requires : goal.copy_of-requires
copy_of-requires c = label-inline c.args.text.now (sym c.is_label.ensures ∙ c.if-is_label.true)
