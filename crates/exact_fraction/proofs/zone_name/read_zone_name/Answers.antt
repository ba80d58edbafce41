use Rattle.std.proofs.Common.{◌∙◌, sym}
use Rattle.exact_fraction.proofs.WordOrder.{zone-inline}
use Rattle.exact_fraction.proofs.zone_name.read_zone_name.Goals as goal

pub copy_of-requires : goal.copy_of-requires
copy_of-requires c =
    zone-inline c.args.text.now (sym c.is_zone_name.ensures ∙ c.if-is_zone_name.true)
