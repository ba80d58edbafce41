use Rattle.std.proofs.Common.{sym, ap, ◌∙◌, subst}
use Rattle.catalog_terms.specs.Keys.{IsSorted}
use Rattle.catalog_terms.specs.Catalog.{without}
use Rattle.slo_catalog.proofs.PutLemmas.{without_sorted}
use Rattle.slo_catalog.proofs.members.Members.without.Goals as goal

pub invariant_of-result : goal.invariant_of-result
invariant_of-result c =
    subst IsSorted (sym (c.in_ok-shared_without.ensures
    ∙ ap (without c.args.kind c.args.name) c.as_slice.ensures.all))
    (without_sorted c.args.kind c.args.name c.args.self.now c.as_slice.ensures.sorted)
