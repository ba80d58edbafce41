use Rattle.std.proofs.Common.{take}
use Rattle.std.specs.List.{AllByRecursion}
use Rattle.kept_sums.specs.Objectives.{key_by}
use Rattle.kept_sums.specs.Plans.{HasEither}
use Rattle.office_history.specs.declared.Measure.{Measure}
use Rattle.kept_sums.proofs.plan.is_there.Given as goal

-- those so far are kept, or come with the plan
abbrev pub invariant-loop-measure : goal.invariant-loop-measure
invariant-loop-measure l = AllByRecursion
    (λ (m : Measure). HasEither l.pool l.objectives l.plan (key_by l.pool m))
    (take l.measure-index l.plan.wanted.items)
