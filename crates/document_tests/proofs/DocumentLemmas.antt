-- What the tests know of the nodes of a text, and of objects of documents behind others.
use Rattle.std.proofs.Common.{List, [], ◌∷◌, ◌++◌}
use Rattle.std.specs.List.{All, AllByRecursion}
use Rattle.std.proofs.lemmas.List.Elements.{All-from_recursion, All-append}
use Rattle.yaml_terms.specs.declared.Node.{Node}
use Rattle.yaml_terms.specs.NodeView.{node_view, nodes_view}
use Rattle.yaml_terms.specs.SpellingFits.{IsWritable}
use Rattle.object_terms.specs.declared.Object.{Object}
use Rattle.object_terms.specs.Document.{IsOfDocument}

by_nodes : (nodes : List Node) → AllByRecursion IsWritable (nodes_view nodes)
    → AllByRecursion (λ n. IsWritable (node_view n)) nodes
by_nodes [] h = tt
by_nodes (n ∷ ns) h = (h.0, by_nodes ns h.1)

pub each_node : (nodes : List Node) → AllByRecursion IsWritable (nodes_view nodes)
    → All (λ n. IsWritable (node_view n)) nodes
each_node nodes h = All-from_recursion (λ n. IsWritable (node_view n)) nodes (by_nodes nodes h)

pub all_of_both : (os ps : List Object) → All IsOfDocument os → All IsOfDocument ps
    → All IsOfDocument (os ++ ps)
all_of_both os ps h k = All-append IsOfDocument os ps h k
