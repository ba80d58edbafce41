use Rattle.std.proofs.Common.{◌≡◌, List, Some, arith, slice_get, subst}
use Rattle.std.specs.List.{AllByRecursion}
use Rattle.office_history.specs.declared.Measure.{Measure}
use Rattle.kept_sums.specs.Objectives.{key_by}
use Rattle.kept_sums.specs.Plans.{HasEither}
use Rattle.kept_sums.proofs.ListLemmas.{get_index, one_more, take_all}
use Rattle.kept_sums.proofs.SharedLemmas.{each-key}
use Rattle.kept_sums.proofs.plan.is_there.Goals as goal

pub loop-measure-preserved : goal.loop-measure-preserved
loop-measure-preserved c =
    let wanted = c.args.plan.now.wanted.items in
    let at = c.loop-measure.measure-index in
    let item : Measure = c.measure-item.result in
    let Has : Measure → Type 0 = λ m.
    HasEither c.args.pool c.args.objectives.now c.args.plan.now (key_by c.args.pool m) in
    one_more Has Has wanted at item
    (subst (λ (items : List Measure). slice_get items at ≡ Some item)
    c.deref-measure-items.ensures.value
    (get_index c.deref-measure-items.result.now at item c.loop-measure-test.true c.measure-item.is))
    (λ m has. has) c.loop-measure.invariant (c.has_either-there.ensures c.if-not-there.false)

pub returns : goal.returns
returns c = λ yes key has.
    let wanted = c.args.plan.now.wanted.items in
    let Has : Measure → Type 0 = HasEither c.args.pool c.args.objectives.now c.args.plan.now in
    each-key Has c.args.pool wanted
    (subst (AllByRecursion (λ (m : Measure). Has (key_by c.args.pool m)))
    (take_all wanted c.loop-measure.measure-index (omega arith)) c.loop-measure.invariant) key has
