use Rattle.std.proofs.Common.{◌≡◌, ◌+◌, drop}
use Rattle.yaml_terms.specs.Line.{content}
use Rattle.yaml_lines.specs.LineView.{line_view, joined_lines}
use Rattle.yaml_lines.proofs.line.content.Given as goal

-- what stands before, and behind it what is left, is all
abbrev pub invariant-loop-at : goal.invariant-loop-at
invariant-loop-at l = joined_lines (line_view l.line)
    (content (l.column + l.at) (drop l.at l.bytes))
    ≡ content l.column l.bytes
