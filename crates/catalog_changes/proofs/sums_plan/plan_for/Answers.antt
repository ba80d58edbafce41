use Rattle.std.proofs.Common.{arith, subst, sym}
use Rattle.std.specs.List.{AllByRecursion}
use Rattle.kept_sums.specs.Objectives.{IsObjective}
use Rattle.kept_sums.specs.Sums.{RowFits}
use Rattle.kept_sums.proofs.ListLemmas.{all_at, get_index}
use Rattle.kept_sums.proofs.MakeLemmas.{so_far_all, so_far_next}
use Rattle.catalog_measures.specs.Measures.{IsMeasure}
use Rattle.office_history.specs.declared.Measure.{Measure}
use Rattle.catalog_changes.specs.Wanted.{HasWanted}
use Rattle.catalog_changes.proofs.sums_plan.plan_for.Goals as goal

pub want_for-requires-clause-width : goal.want_for-requires-clause-width
want_for-requires-clause-width c =
    let item : Measure = c.measure-item.result in
    let in_range : IsMeasure item =
    subst IsMeasure (sym c.measure-item.is)
    (c.requires.ranges c.loop-measure.measure-index item c.loop-measure-test.true) in
    in_range.width.divides

pub want_for-requires-clause-forms : goal.want_for-requires-clause-forms
want_for-requires-clause-forms c =
    let item : Measure = c.measure-item.result in
    subst (λ (m : Measure). AllByRecursion (RowFits m) c.args.derived.now.book.rows)
    (sym c.measure-item.is)
    (c.requires.forms c.loop-measure.measure-index item c.loop-measure-test.true)

pub loop-measure-preserved : goal.loop-measure-preserved
loop-measure-preserved c =
    let made = c.args.derived.now.book.exclusions in
    let inv = c.loop-measure.invariant in
    let here = get_index c.args.objectives.now c.loop-measure.measure-index c.measure-item.result
    c.loop-measure-test.true c.measure-item.is in
    record {
      made = c.in_ok-want_for.ensures.made;
      own = λ members all. c.in_ok-want_for.ensures.own members
          (all_at (IsObjective members) c.args.objectives.now c.loop-measure.measure-index
          c.measure-item.result here all) (inv.own members all);
      pooled = λ members all. c.in_ok-want_for.ensures.pooled members
          (all_at (IsObjective members) c.args.objectives.now c.loop-measure.measure-index
          c.measure-item.result here all) (inv.pooled members all);
      all = so_far_next (HasWanted made c.loop-measure.plan) (HasWanted made c.want_for.new.plan)
          c.args.objectives.now c.loop-measure.measure-index c.measure-item.result
          c.loop-measure-test.true c.measure-item.is c.in_ok-want_for.ensures.still inv.all
          c.in_ok-want_for.ensures.here;
    }

pub returns-clause-all : goal.returns-clause-all
returns-clause-all c =
    so_far_all (HasWanted c.args.derived.now.book.exclusions c.loop-measure.plan)
    c.args.objectives.now c.loop-measure.measure-index (omega arith) c.loop-measure.invariant.all
