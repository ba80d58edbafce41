use Rattle.std.proofs.Common.{◌≡◌, length, option_map}
use Rattle.wire_routes.specs.Queries.{items_of, only_of, values_of}
use Rattle.wire_routes.proofs.ItemLemmas.{with_found}
use Rattle.wire_routes.proofs.query.only.Given as goal

abbrev pub invariant-items : goal.invariant-items
invariant-items l = only_of (with_found (option_map (λ v. v.now) l.found) (values_of l.key l.items))
    ≡ only_of (values_of l.key (items_of l.query))

abbrev pub decreases-items : goal.decreases-items
decreases-items l = length l.items
