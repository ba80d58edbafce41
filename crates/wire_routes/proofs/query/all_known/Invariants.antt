use Rattle.std.proofs.Common.{◌≡◌, length}
use Rattle.std.specs.List.{list_all}
use Rattle.wire_routes.specs.Queries.{is_known, items_of}
use Rattle.wire_routes.proofs.query.all_known.Given as goal

abbrev pub invariant-items : goal.invariant-items
invariant-items l = list_all (is_known l.first l.second l.third) l.items
    ≡ list_all (is_known l.first l.second l.third) (items_of l.query)

abbrev pub decreases-items : goal.decreases-items
decreases-items l = length l.items
