use Rattle.std.proofs.Common.{◌≡◌, ◌++◌, drop, flat_map}
use Rattle.object_terms.specs.Slo.{slo_in}
use Rattle.catalog_terms.specs.Bindings.{bindings_in, bindings}
use Rattle.slo_catalog.proofs.bindings.bindings_of.Given as goal

-- the bindings so far and those of the objects that are left are those of all
abbrev pub invariant-loop-member : goal.invariant-loop-member
invariant-loop-member l = l.bindings.items
    ++ flat_map (λ o. bindings_in l.members o.name (slo_in o.body)) (drop l.member-index l.members)
    ≡ bindings l.members
