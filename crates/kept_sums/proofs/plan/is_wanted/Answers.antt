use Rattle.std.proofs.Common.{◌≢◌, subst}
use Rattle.std.proofs.lemmas.List.{take_all}
use Rattle.std.specs.List.{AllByRecursion}
use Rattle.office_history.specs.declared.Measure.{Measure}
use Rattle.kept_sums.specs.Objectives.{key_by}
use Rattle.kept_sums.proofs.KeyLemmas.{never_there}
use Rattle.kept_sums.proofs.plan.is_wanted.Goals as goal

pub returns : goal.returns
returns c =
    let pool = c.args.pool in
    let wanted = c.args.wanted.now in
    let key = key_by pool c.args.measure.now in
    let others = subst (AllByRecursion (λ (other : Measure). key_by pool other ≢ key))
    (take_all c.loop-other.other-index wanted c.loop-other-test.false) c.loop-other.invariant in (
      λ yes. cc yes,
      λ has. absurd (never_there (key_by pool) wanted key others has),
    )
