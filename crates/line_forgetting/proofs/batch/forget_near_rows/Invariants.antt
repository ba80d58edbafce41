use Rattle.kept_sums.specs.Replacing.{HasMoved}
use Rattle.line_forgetting.specs.Touched.{HasMovedBefore, IsForgetting}
use Rattle.line_forgetting.proofs.batch.forget_near_rows.Given as goal

-- what is near the slices of the rows so far is forgotten, but for the run that waits
abbrev pub invariant-loop-place : goal.invariant-loop-place
invariant-loop-place l =
    IsForgetting (HasMoved l.measure l.rows l.verdicts)
    (HasMovedBefore l.measure l.rows l.verdicts l.place) l.width l.waiting l.fn.line l.line
