use Rattle.std.proofs.Common.{◌≡◌, ◌++◌, drop}
use Rattle.catalog_measures.specs.Names.{slo_names}
use Rattle.catalog_measures.proofs.names.slo_names.Given as goal

-- the names so far and those of the members that are left are those of all
abbrev pub invariant-loop-member : goal.invariant-loop-member
invariant-loop-member l =
    l.names.items ++ slo_names (drop l.member-index l.member-items) ≡ slo_names l.catalog
