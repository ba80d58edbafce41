use Rattle.std.proofs.Common.{◌<◌, ap, subst, sym, ◌∙◌, arith, length, refl, slice_index_or}
use Rattle.std.specs.List.{AllByRecursion}
use Rattle.kept_sums.specs.Sums.{HasItsDay, SumsAreKept}
use Rattle.kept_sums.specs.Objectives.{AreKept, HaveDays, measures_of}
use Rattle.kept_sums.specs.declared.kept.ObjectiveSums.{ObjectiveSums}
use Rattle.kept_sums.proofs.Loops.{all_get, all_set, all_units, half_end, half_step}
use Rattle.kept_sums.proofs.Loops.{keys_set, written_back, written_back_at}
use Rattle.kept_sums.proofs.follow.reserve_all.Goals as goal

pub loop-kept-init : goal.loop-kept-init
loop-kept-init c = record {
  days = all_units c.deref_mut-kept-items.result.now;
  kept = λ made before known. known;
  measures = refl;
}

pub returns-in_err-reserve_batch-clause-kept : goal.returns-in_err-reserve_batch-clause-kept
returns-in_err-reserve_batch-clause-kept c = λ made before known.
    let items = c.loop-kept.kept-items in
    let at = c.loop-kept.kept-index in
    let value = c.deref_mut-kept-items.ensures.value in
    let same = sym value in
    let less : at < length items =
    omega (arith, c.loop-kept-test.true, c.loop-kept.auto.kept-items) in
    let next : ObjectiveSums = record {
      measure = (slice_index_or items at c.kept-item.result).measure;
      sums = c.reserve_batch.new.sums;
    } in
    let all = c.loop-kept.invariant.kept made before (subst (AreKept made before) same known) in
    subst (AreKept made before)
    (sym (written_back_at items c.args.objectives.now.items at next
    c.args.objectives.now.len (c.loop-kept.auto.kept-items ∙ ap length value)
    (ap length (sym value) ∙ c.deref_mut-kept-items.ensures.len)))
    (all_set (λ (k : ObjectiveSums). SumsAreKept k.measure made before k.sums) at items next all
    (c.reserve_batch.ensures.kept made before
    (all_get (λ (k : ObjectiveSums). SumsAreKept k.measure made before k.sums) at items
    c.kept-item.result less all)))

pub returns-in_err-reserve_batch-clause-measures : goal.returns-in_err-reserve_batch-clause-measures
returns-in_err-reserve_batch-clause-measures c =
    let items = c.loop-kept.kept-items in
    let at = c.loop-kept.kept-index in
    let value = c.deref_mut-kept-items.ensures.value in
    let same = sym value in
    let next : ObjectiveSums = record {
      measure = (slice_index_or items at c.kept-item.result).measure;
      sums = c.reserve_batch.new.sums;
    } in
    ap measures_of (written_back_at items c.args.objectives.now.items at next
    c.args.objectives.now.len (c.loop-kept.auto.kept-items ∙ ap length value)
    (ap length (sym value) ∙ c.deref_mut-kept-items.ensures.len))
    ∙ keys_set (λ (k : ObjectiveSums). k.measure) at items next c.kept-item.result refl
    ∙ c.loop-kept.invariant.measures ∙ ap measures_of (sym same)

pub loop-kept-preserved : goal.loop-kept-preserved
loop-kept-preserved c =
    let items = c.loop-kept.kept-items in
    let at = c.loop-kept.kept-index in
    let less : at < length items =
    omega (arith, c.loop-kept-test.true, c.loop-kept.auto.kept-items) in
    let next : ObjectiveSums = record {
      measure = (slice_index_or items at c.kept-item.result).measure;
      sums = c.reserve_batch.new.sums;
    } in
    record {
      days = half_step (λ (k : ObjectiveSums). Unit {0})
          (λ (k : ObjectiveSums). AllByRecursion (HasItsDay k.measure k.sums) c.args.rows.now)
          at items next less c.loop-kept.invariant.days c.in_ok-reserve_batch.ensures.days;
      kept = λ made before known.
          let all = c.loop-kept.invariant.kept made before known in
          all_set (λ (k : ObjectiveSums). SumsAreKept k.measure made before k.sums) at items next
          all
          (c.reserve_batch.ensures.kept made before
          (all_get (λ (k : ObjectiveSums). SumsAreKept k.measure made before k.sums) at items
          c.kept-item.result less all));
      measures = keys_set (λ (k : ObjectiveSums). k.measure) at items next c.kept-item.result refl
          ∙ c.loop-kept.invariant.measures;
    }

pub returns-clause-days : goal.returns-clause-days
returns-clause-days c =
    let items = c.loop-kept.kept-items in
    let value = c.deref_mut-kept-items.ensures.value in
    subst (HaveDays c.args.rows.now)
    (sym (written_back items c.args.objectives.now.items c.args.objectives.now.len
    (c.loop-kept.auto.kept-items ∙ ap length value)
    (ap length (sym value) ∙ c.deref_mut-kept-items.ensures.len)))
    (half_end (λ (k : ObjectiveSums). Unit {0})
    (λ (k : ObjectiveSums). AllByRecursion (HasItsDay k.measure k.sums) c.args.rows.now)
    c.loop-kept.kept-index items
    (omega (arith, c.loop-kept-test.false, c.loop-kept.auto.kept-items))
    c.loop-kept.invariant.days)

pub returns-clause-kept : goal.returns-clause-kept
returns-clause-kept c = λ made before known.
    let items = c.loop-kept.kept-items in
    let value = c.deref_mut-kept-items.ensures.value in
    let same = sym value in
    subst (AreKept made before)
    (sym (written_back items c.args.objectives.now.items c.args.objectives.now.len
    (c.loop-kept.auto.kept-items ∙ ap length value)
    (ap length (sym value) ∙ c.deref_mut-kept-items.ensures.len)))
    (c.loop-kept.invariant.kept made before (subst (AreKept made before) same known))
