use Rattle.std.proofs.Common.{◌≢◌, take}
use Rattle.std.specs.List.{AllByRecursion}
use Rattle.kept_sums.specs.Objectives.{key_by}
use Rattle.office_history.specs.declared.Measure.{Measure}
use Rattle.kept_sums.proofs.plan.is_wanted.Given as goal

-- those so far have other keys
abbrev pub invariant-loop-other : goal.invariant-loop-other
invariant-loop-other l = AllByRecursion
    (λ (other : Measure). key_by l.pool other ≢ key_by l.pool l.measure)
    (take l.other-index l.wanted)
