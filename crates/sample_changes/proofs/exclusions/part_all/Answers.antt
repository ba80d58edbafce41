use Rattle.std.proofs.Common.{List, arith, false, subst, sym}
use Rattle.std.specs.List.{AllByRecursion, Contains}
use Rattle.object_terms.specs.declared.Object.{Object}
use Rattle.office_history.specs.declared.Measure.{Measure}
use Rattle.catalog_measures.specs.Measures.{IsMeasure}
use Rattle.kept_sums.specs.Objectives.{IsObjective, counted, keys_by}
use Rattle.kept_sums.proofs.ListLemmas.{all_at, get_index, one_more, take_all}
use Rattle.office_derived.proofs.Sound.{sound_stays, stays_so, stays_then}
use Rattle.sample_changes.proofs.exclusions.part_all.Goals as goal

pub loop-measure-init : goal.loop-measure-init
loop-measure-init c = record {
  here = tt;
  stays = stays_so c.args.derived.now;
  sound = c.requires.sound;
}

pub part-requires-clause-objective : goal.part-requires-clause-objective
part-requires-clause-objective c =
    let item : Measure = c.measure-item.result in
    subst (λ (members : List Object). IsObjective members item)
    (sym c.loop-measure.invariant.stays.catalog)
    (all_at (IsObjective c.args.derived.now.catalog) c.args.measures.now
    c.loop-measure.measure-index item
    (get_index c.args.measures.now c.loop-measure.measure-index item c.loop-measure-test.true
    c.measure-item.is) c.requires.objectives)

pub part-requires-clause-range : goal.part-requires-clause-range
part-requires-clause-range c =
    let item : Measure = c.measure-item.result in
    subst IsMeasure (sym c.measure-item.is)
    (c.requires.ranges c.loop-measure.measure-index item c.loop-measure-test.true)

pub returns-in_err-part-clause-stays : goal.returns-in_err-part-clause-stays
returns-in_err-part-clause-stays c =
    stays_then c.args.derived.now c.loop-measure.derived c.part.new.derived
    c.loop-measure.invariant.stays c.part.ensures.stays

pub loop-measure-preserved : goal.loop-measure-preserved
loop-measure-preserved c =
    let before = c.loop-measure.derived in
    let now = c.part.new.derived in
    let item : Measure = c.measure-item.result in
    record {
      here = one_more (λ (m : Measure). Contains (keys_by false before.sums.own) (counted m))
          (λ (m : Measure). Contains (keys_by false now.sums.own) (counted m))
          c.args.measures.now c.loop-measure.measure-index item
          (get_index c.args.measures.now c.loop-measure.measure-index item
          c.loop-measure-test.true c.measure-item.is)
          (λ m has. c.part.ensures.still (counted m) has) c.loop-measure.invariant.here
          c.in_ok-part.ensures.here;
      stays = stays_then c.args.derived.now before now c.loop-measure.invariant.stays
          c.part.ensures.stays;
      sound = sound_stays before now c.part.ensures.stays c.loop-measure.invariant.sound;
    }

pub returns-clause-here : goal.returns-clause-here
returns-clause-here c =
    subst (AllByRecursion (λ (m : Measure).
    Contains (keys_by false c.loop-measure.derived.sums.own) (counted m)))
    (take_all c.args.measures.now c.loop-measure.measure-index (omega arith))
    c.loop-measure.invariant.here
