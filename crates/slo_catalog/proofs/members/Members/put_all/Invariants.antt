use Rattle.std.proofs.Common.{◌≡◌, drop}
use Rattle.catalog_terms.specs.Catalog.{with_members}
use Rattle.slo_catalog.proofs.members.Members.put_all.Given as goal

abbrev pub invariant-loop-member : goal.invariant-loop-member
invariant-loop-member l =
    with_members (drop l.member-index l.others) l.members ≡ with_members l.others l.fn.self
