use Rattle.std.proofs.Common.{◌≡◌, ◌+◌, ◌≤◌, drop, filter, length}
use Rattle.catalog_terms.specs.Bindings.{has_condition}
use Rattle.slo_catalog.proofs.bindings.count_with_condition.Given as goal

-- the policies that were counted so far and those that will be of the rest are all
abbrev pub invariant-loop-name : goal.invariant-loop-name
invariant-loop-name l =
    record {
      told : l.count + length (filter (has_condition l.members) (drop l.name-index l.names))
          ≡ length (filter (has_condition l.members) l.names);
      within : l.count ≤ l.name-index;
    }
