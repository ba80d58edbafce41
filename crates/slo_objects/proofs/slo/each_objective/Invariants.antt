use Rattle.std.proofs.Common.{◌≡◌, ◌≤◌, [], drop, length}
use Rattle.object_terms.specs.Form.{each}
use Rattle.object_fields.specs.Reading.{trees_view}
use Rattle.object_terms.specs.Slo.{objective_item}
use Rattle.slo_objects.proofs.slo.each_objective.Given as goal

-- what is read so far, and what the rest gives; each item gave one objective
abbrev pub invariant-loop-node : goal.invariant-loop-node
invariant-loop-node l =
    (each (objective_item l.method l.key) l.found l.objectives
    (trees_view (drop l.node-index l.items))
    ≡ each (objective_item l.method l.key) l.initial.found [] (trees_view l.items))
    × (length l.objectives ≤ l.node-index)
