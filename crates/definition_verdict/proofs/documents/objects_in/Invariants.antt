use Rattle.std.proofs.Common.{◌≡◌, ◌+◌, [], drop, map}
use Rattle.yaml_terms.specs.NodeView.{node_view}
use Rattle.office_history.specs.Documents.{objects_from}
use Rattle.definition_verdict.proofs.documents.objects_in.Given as goal

-- the objects so far, and what the rest gives
abbrev pub invariant-loop-node : goal.invariant-loop-node
invariant-loop-node l = record {
  pass : objects_from l.objects l.number (map node_view (drop l.node-index l.documents))
      ≡ objects_from [] 1 (map node_view l.documents);
  number : l.number ≡ l.node-index + 1;
}
