use Rattle.std.proofs.Common.{◌≡◌, ◌+◌, drop}
use Rattle.yaml_lines.specs.LineView.{mark_view}
use Rattle.yaml_subset.specs.OpenView.{next_place}
use Rattle.yaml_subset.proofs.open.next_place.Given as goal

-- the mark is the next one of none so far
abbrev pub invariant-loop-at : goal.invariant-loop-at
invariant-loop-at l = l.at + next_place (mark_view l.mark) (drop l.at l.frames)
    ≡ next_place (mark_view l.mark) l.frames
