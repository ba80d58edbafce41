use Rattle.std.proofs.Common.{◌<◌, ◌++◌, ap, subst, sym, ◌∙◌, arith, length, refl, slice_index_or}
use Rattle.sample_book.specs.Rows.{current_rows}
use Rattle.kept_sums.specs.Sums.{SumsAreKept}
use Rattle.kept_sums.specs.Objectives.{AreKept, HaveDays, HaveForms, made_for}
use Rattle.kept_sums.specs.declared.kept.ObjectiveSums.{ObjectiveSums}
use Rattle.kept_sums.proofs.FollowNeeds.{MayFollow, all_may_follow}
use Rattle.kept_sums.proofs.Loops.{half_end, half_get, half_step, keys_set, written_back}
use Rattle.kept_sums.proofs.follow.count_all.Goals as goal

-- the sums of the objective at hand may follow the rows
ready : (c : goal.After-count_batch-arg-in-loop-kept-1) →
    MayFollow (made_for c.args.pool c.args.book.now.exclusions) c.args.book.now.rows
    c.args.rows.now
    (slice_index_or c.loop-kept.kept-items c.loop-kept.kept-index c.kept-item.result)
ready c =
    let made = made_for c.args.pool c.args.book.now.exclusions in
    let rows = c.args.book.now.rows in
    half_get (MayFollow made rows c.args.rows.now)
    (λ (k : ObjectiveSums). SumsAreKept k.measure made
    (current_rows (rows ++ c.args.rows.now)) k.sums)
    c.loop-kept.kept-index c.loop-kept.kept-items c.kept-item.result
    (omega (arith, c.loop-kept-test.true, c.loop-kept.auto.kept-items))
    c.loop-kept.invariant.followed

pub count_batch-requires-clause-kept : goal.count_batch-requires-clause-kept
count_batch-requires-clause-kept c = (ready c).kept

pub count_batch-requires-clause-forms : goal.count_batch-requires-clause-forms
count_batch-requires-clause-forms c = (ready c).forms

pub count_batch-requires-clause-fit : goal.count_batch-requires-clause-fit
count_batch-requires-clause-fit c = (ready c).fit

pub count_batch-requires-clause-days : goal.count_batch-requires-clause-days
count_batch-requires-clause-days c = (ready c).days

pub loop-kept-init : goal.loop-kept-init
loop-kept-init c =
    let made = made_for c.args.pool c.args.book.now.exclusions in
    let rows = c.args.book.now.rows in
    let same = sym c.deref_mut-kept-items.ensures.value in
    record {
      followed = all_may_follow made rows c.args.rows.now c.deref_mut-kept-items.result.now
          (subst (AreKept made rows) same c.requires.kept)
          (subst (HaveForms rows) same c.requires.forms)
          (subst (HaveForms c.args.rows.now) same c.requires.fit)
          (subst (HaveDays c.args.rows.now) same c.requires.days);
      measures = refl;
    }

pub loop-kept-preserved : goal.loop-kept-preserved
loop-kept-preserved c =
    let made = made_for c.args.pool c.args.book.now.exclusions in
    let rows = c.args.book.now.rows in
    let items = c.loop-kept.kept-items in
    let at = c.loop-kept.kept-index in
    let less : at < length items =
    omega (arith, c.loop-kept-test.true, c.loop-kept.auto.kept-items) in
    let next : ObjectiveSums = record {
      measure = (slice_index_or items at c.kept-item.result).measure;
      sums = c.count_batch.new.sums;
    } in
    record {
      followed = half_step (MayFollow made rows c.args.rows.now)
          (λ (k : ObjectiveSums). SumsAreKept k.measure made
          (current_rows (rows ++ c.args.rows.now))
          k.sums)
          at items next less c.loop-kept.invariant.followed c.count_batch.ensures.kept;
      measures = keys_set (λ (k : ObjectiveSums). k.measure) at items next c.kept-item.result refl
          ∙ c.loop-kept.invariant.measures;
    }

pub returns-clause-kept : goal.returns-clause-kept
returns-clause-kept c =
    let made = made_for c.args.pool c.args.book.now.exclusions in
    let after = current_rows (c.args.book.now.rows ++ c.args.rows.now) in
    let items = c.loop-kept.kept-items in
    let value = c.deref_mut-kept-items.ensures.value in
    subst (AreKept made after)
    (sym (written_back items c.args.objectives.now.items c.args.objectives.now.len
    (c.loop-kept.auto.kept-items ∙ ap length value)
    (ap length (sym value) ∙ c.deref_mut-kept-items.ensures.len)))
    (half_end (MayFollow made c.args.book.now.rows c.args.rows.now)
    (λ (k : ObjectiveSums). SumsAreKept k.measure made after k.sums)
    c.loop-kept.kept-index items
    (omega (arith, c.loop-kept-test.false, c.loop-kept.auto.kept-items))
    c.loop-kept.invariant.followed)
