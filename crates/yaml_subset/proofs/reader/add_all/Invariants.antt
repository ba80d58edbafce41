use Rattle.std.proofs.Common.{◌≡◌, map}
use Rattle.std.specs.Vec.Iter.{into_iter_items}
use Rattle.yaml_terms.specs.Fault.{misfit}
use Rattle.yaml_terms.specs.OpenNodes.{open_after_all}
use Rattle.yaml_lines.specs.LineView.{mark_view}
use Rattle.yaml_subset.specs.OpenView.{nodes_open}
use Rattle.yaml_subset.proofs.reader.add_all.Given as goal

-- the marks that are left, among the open nodes so far, are all marks among those at the start
abbrev pub invariant-loop-mark : goal.invariant-loop-mark
invariant-loop-mark l = record {
  rest : open_after_all (map mark_view (into_iter_items l.mark-iterator))
      (nodes_open l.nodes) ≡ open_after_all (map mark_view l.fn.marks.items)
      (nodes_open l.fn.nodes);
  fault : misfit (map mark_view (into_iter_items l.mark-iterator))
      (nodes_open l.nodes) ≡ misfit (map mark_view l.fn.marks.items) (nodes_open l.fn.nodes);
}
