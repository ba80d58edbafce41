use Rattle.std.proofs.Common.{◌≡◌, [], drop}
use Rattle.object_terms.specs.Form.{each}
use Rattle.object_fields.specs.Reading.{trees_view}
use Rattle.object_fields.proofs.lists.each_name.Given as goal

-- what is read so far, and what the rest gives
abbrev pub invariant-loop-node : goal.invariant-loop-node
invariant-loop-node g l =
    each (g.I.ReadItem.item l.how l.key) l.found l.names (trees_view (drop l.node-index l.items))
    ≡ each (g.I.ReadItem.item l.how l.key) l.initial.found [] (trees_view l.items)
