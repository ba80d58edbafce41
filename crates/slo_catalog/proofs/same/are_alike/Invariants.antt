use Rattle.std.proofs.Common.{◌≡◌, drop}
use Rattle.catalog_terms.specs.Define.{is_unchanged}
use Rattle.slo_catalog.proofs.same.are_alike.Given as goal

abbrev pub invariant-loop-member : goal.invariant-loop-member
invariant-loop-member l =
    is_unchanged l.old (drop l.member-index l.objects) ≡ is_unchanged l.old l.objects
