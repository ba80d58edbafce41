use Rattle.std.proofs.Common.{◌≡◌, drop}
use Rattle.catalog_terms.specs.References.{first_referrer}
use Rattle.slo_catalog.proofs.reference.referrer_in.Given as goal

abbrev pub invariant-loop-member : goal.invariant-loop-member
invariant-loop-member l = first_referrer (drop l.member-index l.objects) l.kind l.name
    ≡ first_referrer l.objects l.kind l.name
