use Rattle.std.proofs.Common.{◌≡◌, ◌∙◌, ℕ, List, map, ap}
use Rattle.yaml_terms.specs.NodeView.{node_view, fields_view}
use Rattle.yaml_terms.specs.Tree.{Tree}
use Rattle.yaml_terms.specs.declared.ScalarText.{ScalarText}
use Rattle.yaml_terms.specs.declared.Node.{Node}
use Rattle.yaml_terms.proofs.Failures.{no_ok}
use Rattle.yaml_terms.proofs.NodeLemmas.{copied_all, copied_more, same_list, same_map}
use Rattle.yaml_writing.proofs.copy.+copies.Goals as goal

pub copy_node-returns-in_ok-copy_pairs-in-Map : goal.copy_node-returns-in_ok-copy_pairs-in-Map
copy_node-returns-in_ok-copy_pairs-in-Map t c =
    rw c.in-Map.is (same_map c.in_ok-copy_pairs-in-Map.field-0 c.in-Map.entries
    (c.in_ok-copy_pairs-in-Map.ensures ∙ ap fields_view c.deref.ensures.value))

pub copy_nodes-returns-in_err-copies : goal.copy_nodes-returns-in_err-copies
copy_nodes-returns-in_err-copies t c = no_ok _ _ c.from_residual.result c.from_residual.ensures.1

pub copy_nodes-returns-in_err-copy_node : goal.copy_nodes-returns-in_err-copy_node
copy_nodes-returns-in_err-copy_node t c =
    no_ok _ _ c.from_residual-in_err-copy_node.result c.from_residual-in_err-copy_node.ensures.1

pub copy_nodes-returns-in_err-push : goal.copy_nodes-returns-in_err-push
copy_nodes-returns-in_err-push t c =
    no_ok _ _ c.from_residual-in_err-push.result c.from_residual-in_err-push.ensures.1

pub copy_pairs-returns-in_err-copies : goal.copy_pairs-returns-in_err-copies
copy_pairs-returns-in_err-copies t c = no_ok _ _ c.from_residual.result c.from_residual.ensures.1

pub copy_pairs-returns-in_err-key : goal.copy_pairs-returns-in_err-key
copy_pairs-returns-in_err-key t c =
    no_ok _ _ c.from_residual-in_err-key.result c.from_residual-in_err-key.ensures.1

pub copy_pairs-returns-in_err-node : goal.copy_pairs-returns-in_err-node
copy_pairs-returns-in_err-node t c =
    no_ok _ _ c.from_residual-in_err-node.result c.from_residual-in_err-node.ensures.1

pub copy_pairs-returns-in_err-push : goal.copy_pairs-returns-in_err-push
copy_pairs-returns-in_err-push t c =
    no_ok _ _ c.from_residual-in_err-push.result c.from_residual-in_err-push.ensures.1

pub copy_node-returns-in_ok-copy_nodes-in-List : goal.copy_node-returns-in_ok-copy_nodes-in-List
copy_node-returns-in_ok-copy_nodes-in-List t c =
    rw c.in-List.is (same_list c.in_ok-copy_nodes-in-List.field-0 c.in-List.items
    (c.in_ok-copy_nodes-in-List.ensures ∙ ap (map node_view) c.deref-in-List.ensures.value))

pub copy_nodes-loop-node-preserved : goal.copy_nodes-loop-node-preserved
copy_nodes-loop-node-preserved t c =
    copied_more node_view c.loop-node.copies.items c.args.items.now c.push.new.self.items
    c.loop-node.node-index c.in_ok-copy_node.field-0 c.node-item.result c.loop-node-test.true
    c.loop-node.invariant c.in_ok-push.ensures.items
    (c.in_ok-copy_node.ensures ∙ ap node_view c.node-item.is)

pub copy_nodes-returns : goal.copy_nodes-returns
copy_nodes-returns t c = copied_all node_view c.loop-node.copies.items c.args.items.now
    c.loop-node.node-index c.loop-node-test.false c.loop-node.invariant

pub copy_pairs-loop-key-preserved : goal.copy_pairs-loop-key-preserved
copy_pairs-loop-key-preserved t c =
    let seen : ScalarText × Node → List ℕ × Tree =
    λ (p : ScalarText × Node). (p.0, node_view p.1) in
    let text : c.in_ok-key.key ≡ c.loop-key-item.result.0 = c.in_ok-key.ensures in
    let tree : node_view c.in_ok-node.node ≡ node_view c.loop-key-item.result.1 =
    c.in_ok-node.ensures in
    let one : seen (c.in_ok-key.key, c.in_ok-node.node) ≡ seen c.loop-key-item.result =
    (λ i. (text i, tree i)) in
    copied_more seen c.loop-key.copies.items c.args.entries.now c.push.new.self.items
    c.loop-key.key-index (c.in_ok-key.key, c.in_ok-node.node) c.loop-key-item.result
    c.loop-key-test.true c.loop-key.invariant c.in_ok-push.ensures.items
    (one ∙ ap seen c.loop-key-item.is)

pub copy_pairs-returns : goal.copy_pairs-returns
copy_pairs-returns t c =
    copied_all (λ (p : ScalarText × Node). (p.0, node_view p.1)) c.loop-key.copies.items
    c.args.entries.now c.loop-key.key-index c.loop-key-test.false c.loop-key.invariant
