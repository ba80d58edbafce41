use Rattle.std.proofs.Common.{◌≡◌, take, map}
use Rattle.yaml_terms.specs.Tree.{trees}
use Rattle.yaml_terms.specs.Spelling.{fields_spelled, items_spelled}
use Rattle.yaml_terms.specs.NodeView.{node_view}
use Rattle.yaml_terms.specs.SpellingView.{fields_view, items_view, entries_view}
use Rattle.yaml_writing.proofs.spelling.+spelled.Given as goal

abbrev pub invariant-spelled_fields-loop-entry : goal.invariant-spelled_fields-loop-entry
invariant-spelled_fields-loop-entry l =
    fields_view l.fields.items ≡ fields_spelled (entries_view (take l.entry-index l.entry-items))

abbrev pub invariant-spelled_items-loop-node : goal.invariant-spelled_items-loop-node
invariant-spelled_items-loop-node l = items_view l.items.items
    ≡ items_spelled (trees (map node_view (take l.node-index l.node-items)))
