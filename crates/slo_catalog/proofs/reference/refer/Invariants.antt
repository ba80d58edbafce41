use Rattle.std.proofs.Common.{◌≡◌, ◌++◌, drop}
use Rattle.catalog_terms.specs.References.{references_to}
use Rattle.slo_catalog.proofs.reference.refer.Given as goal

-- the references so far and those to the names that are left are those to all
abbrev pub invariant-loop-name : goal.invariant-loop-name
invariant-loop-name l = l.references.items
    ++ references_to l.object l.kind (drop l.name-index l.names)
    ≡ l.fn.references.items ++ references_to l.object l.kind l.names
