use Rattle.std.proofs.Common.{◌≡◌, drop}
use Rattle.yaml_terms.specs.Flow.{flow, flow_start}
use Rattle.yaml_lines.specs.FlowView.{flow_view}
use Rattle.yaml_lines.proofs.flow.read_flow.Given as goal

-- the list so far, gone on with over the rest, is the list of all bytes
abbrev pub invariant-loop-at : goal.invariant-loop-at
invariant-loop-at l = flow (flow_view l.list) (drop l.at l.bytes) ≡ flow flow_start l.bytes
