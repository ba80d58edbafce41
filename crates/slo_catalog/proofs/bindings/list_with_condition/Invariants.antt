use Rattle.std.proofs.Common.{◌≡◌, ◌++◌, drop, filter}
use Rattle.catalog_terms.specs.Bindings.{has_condition}
use Rattle.slo_catalog.proofs.bindings.list_with_condition.Given as goal

-- the policies that were kept so far and those that will be of the rest are those of all
abbrev pub invariant-loop-name : goal.invariant-loop-name
invariant-loop-name l = l.kept.items ++ filter (has_condition l.members) (drop l.name-index l.names)
    ≡ filter (has_condition l.members) l.names
