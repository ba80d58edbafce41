use Rattle.std.proofs.Common.{sym, subst}
use Rattle.slo_catalog.specs.Whole.{CatalogIsWhole}
use Rattle.slo_catalog.proofs.RemoveLemmas.{whole_by}
use Rattle.slo_catalog.proofs.removal.removed_by.Goals as goal

pub of-requires : goal.of-requires
of-requires c =
    whole_by c.sorted.result.now c.in-Ok.members c.args.kind c.args.name c.remove_one.result
    c.remove_one.ensures c.in-Ok.is
    (subst CatalogIsWhole (sym c.sorted.ensures.all) c.sorted.ensures.whole)
