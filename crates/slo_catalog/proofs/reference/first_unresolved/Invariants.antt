use Rattle.std.proofs.Common.{◌≡◌, drop}
use Rattle.catalog_terms.specs.References.{first_unresolved}
use Rattle.slo_catalog.proofs.reference.first_unresolved.Given as goal

abbrev pub invariant-loop-member : goal.invariant-loop-member
invariant-loop-member l = first_unresolved l.members (drop l.member-index l.objects)
    ≡ first_unresolved l.members l.objects
