use Rattle.std.proofs.Common.{◌≢◌, take}
use Rattle.std.specs.List.{AllByRecursion}
use Rattle.kept_sums.specs.Objectives.{key_by}
use Rattle.kept_sums.specs.declared.kept.ObjectiveSums.{ObjectiveSums}
use Rattle.kept_sums.proofs.kept.found_in.Given as goal

-- those so far have other keys
abbrev pub invariant-loop-kept : goal.invariant-loop-kept
invariant-loop-kept l = AllByRecursion
    (λ (kept : ObjectiveSums). key_by l.pool kept.measure ≢ key_by l.pool l.measure)
    (take l.kept-index l.objectives)
