use Rattle.std.proofs.Common.{◌≡◌, drop}
use Rattle.std.specs.List.{list_any}
use Rattle.catalog_terms.specs.References.{is_to}
use Rattle.slo_catalog.proofs.reference.some_is_to.Given as goal

abbrev pub invariant-loop-reference : goal.invariant-loop-reference
invariant-loop-reference l = list_any (is_to l.kind l.name) (drop l.reference-index l.references)
    ≡ list_any (is_to l.kind l.name) l.references
