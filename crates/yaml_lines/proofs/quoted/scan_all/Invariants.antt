use Rattle.std.proofs.Common.{◌≡◌, ◌≤◌, drop}
use Rattle.yaml_lines.specs.Scan.{scan, scan_start}
use Rattle.yaml_lines.specs.ScanView.{scan_view}
use Rattle.yaml_lines.proofs.quoted.scan_all.Given as goal

-- the reading so far, gone on with over the rest, is the reading of all
abbrev pub invariant-loop-at : goal.invariant-loop-at
invariant-loop-at l = record {
  rest : scan l.quote (scan_view l.scan) (drop l.at l.bytes) ≡ scan l.quote scan_start l.bytes;
  length : l.scan.quoted.length ≤ l.at;
}
