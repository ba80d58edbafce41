use Rattle.std.proofs.Common.{take, map}
use Rattle.yaml_subset.specs.Reader.{LinesAreRead}
use Rattle.yaml_subset.specs.ReaderView.{reading}
use Rattle.yaml_subset.proofs.read.read_lines.Given as goal

-- the lines so far are read
abbrev pub invariant-loop-at : goal.invariant-loop-at
invariant-loop-at l = LinesAreRead (take l.at (map (λ x. x.now) l.lines)) (reading l.reader)
