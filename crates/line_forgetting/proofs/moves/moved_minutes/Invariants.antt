use Rattle.line_forgetting.specs.Moves.{AreTold, IsMovedSoFar}
use Rattle.line_forgetting.proofs.moves.moved_minutes.Given as goal

-- what is told holds of the rows so far
abbrev pub invariant-loop-place : goal.invariant-loop-place
invariant-loop-place l =
    AreTold (IsMovedSoFar l.measure.sli l.rows l.verdicts l.place) l.minutes
