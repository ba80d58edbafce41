-- What contracts see of a node.
use Rattle.std.specs.Prelude.{List, [], ◌∷◌, map}
use Rattle.yaml_terms.specs.Tree.{Tree, mapping, sequence, scalar, Entries, no_entries, entry}
use Rattle.yaml_terms.specs.Tree.{trees}
use Rattle.yaml_terms.specs.declared.text.ScalarText.{ScalarText}
use Rattle.yaml_terms.specs.declared.node.Node.{Node, fold-Node}
use Rattle.yaml_terms.specs.declared.node.Node.TheOpen.{Node-F}

abbrev pub entries_of : List (ScalarText × Tree) → Entries
entries_of [] = no_entries
entries_of (p ∷ ps) = entry p.0 p.1 (entries_of ps)

-- one level, with each node inside already seen
abbrev pub node_step : Node-F Tree → Tree
node_step (Node-F.Map v) = mapping (entries_of v.items)
node_step (Node-F.List v) = sequence (trees v.items)
node_step (Node-F.Scalar text plain) = scalar text plain

abbrev pub node_view : Node → Tree
node_view = fold-Node Tree node_step

abbrev pub nodes_view : List Node → List Tree
nodes_view xs = map node_view xs

-- the entries of a map, with each value as it is seen
abbrev pub fields_view : List (ScalarText × Node) → List (ScalarText × Tree)
fields_view ps = map (λ p. (p.0, node_view p.1)) ps
