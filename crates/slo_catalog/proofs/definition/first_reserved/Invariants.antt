use Rattle.std.proofs.Common.{◌≡◌, drop}
use Rattle.catalog_terms.specs.Define.{first_reserved}
use Rattle.slo_catalog.proofs.definition.first_reserved.Given as goal

abbrev pub invariant-loop-member : goal.invariant-loop-member
invariant-loop-member l = first_reserved (drop l.member-index l.objects) ≡ first_reserved l.objects
