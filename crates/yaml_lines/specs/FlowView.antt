-- What contracts see of a one-line list so far.
use Rattle.yaml_terms.specs.Flow.{Flow}
use Rattle.yaml_terms.specs.NodeView.{nodes_view}
use Rattle.yaml_lines.specs.declared.flow.Flow.{Flow as Reading}

abbrev pub flow_view : Reading → Flow
flow_view s = record {
  part = s.part;
  text = s.text.items;
  items = nodes_view s.items.items;
  fault = s.fault;
}
