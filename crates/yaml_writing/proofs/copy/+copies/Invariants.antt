use Rattle.std.proofs.Common.{◌≡◌, map, take}
use Rattle.yaml_terms.specs.NodeView.{node_view, fields_view}
use Rattle.yaml_writing.proofs.copy.+copies.Given as goal

abbrev pub invariant-copy_nodes-loop-node : goal.invariant-copy_nodes-loop-node
invariant-copy_nodes-loop-node l =
    map node_view l.copies.items ≡ map node_view (take l.node-index l.items)

abbrev pub invariant-copy_pairs-loop-key : goal.invariant-copy_pairs-loop-key
invariant-copy_pairs-loop-key l =
    fields_view l.copies.items ≡ fields_view (take l.key-index l.entries)
