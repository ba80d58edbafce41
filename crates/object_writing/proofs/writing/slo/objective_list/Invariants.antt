use Rattle.std.proofs.Common.{◌≡◌, drop}
use Rattle.object_terms.specs.Form.{map_with, written_items}
use Rattle.object_terms.specs.Slo.{objective}
use Rattle.object_writing.specs.Adding.{items_before}
use Rattle.object_writing.proofs.writing.slo.objective_list.Given as goal

abbrev pub invariant-loop-value : goal.invariant-loop-value
invariant-loop-value l =
    items_before l.items.items
    (written_items (map_with (objective l.method)).write (drop l.value-index l.values))
    ≡ written_items (map_with (objective l.method)).write l.values
