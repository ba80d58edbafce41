use Rattle.std.proofs.Common.{◌≡◌, drop, map}
use Rattle.yaml_terms.specs.Text.{parent_after}
use Rattle.yaml_lines.specs.LineView.{mark_view}
use Rattle.yaml_subset.proofs.reader.parent_after.Given as goal

abbrev pub invariant-loop-at : goal.invariant-loop-at
invariant-loop-at l = parent_after l.last (map mark_view (drop l.at l.marks))
    ≡ parent_after l.fn.parent (map mark_view l.marks)
