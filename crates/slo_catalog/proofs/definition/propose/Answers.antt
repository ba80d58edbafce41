use Rattle.std.proofs.Common.{sym, subst}
use Rattle.catalog_terms.specs.Keys.{IsSorted}
use Rattle.catalog_terms.specs.References.{IsLegal}
use Rattle.slo_catalog.proofs.DefineLemmas.{joined_by}
use Rattle.slo_catalog.proofs.definition.propose.Goals as goal

pub of-requires : goal.of-requires
of-requires c =
    joined_by c.sorted.result.now c.as_slice-objects.result.now c.in-Ok.members c.joined.result
    c.joined.ensures c.in-Ok.is
    (subst IsSorted (sym c.sorted.ensures.all) c.sorted.ensures.sorted)
    (subst IsLegal (sym c.sorted.ensures.all) c.sorted.ensures.legal)
