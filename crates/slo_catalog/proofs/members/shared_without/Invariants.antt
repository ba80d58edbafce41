use Rattle.std.proofs.Common.{◌≡◌, ◌++◌, drop}
use Rattle.catalog_terms.specs.Catalog.{without}
use Rattle.slo_catalog.proofs.members.shared_without.Given as goal

abbrev pub invariant-loop-member : goal.invariant-loop-member
invariant-loop-member l = l.kept
    ++ without l.kind l.name (drop l.member-index l.members) ≡ without l.kind l.name l.members
