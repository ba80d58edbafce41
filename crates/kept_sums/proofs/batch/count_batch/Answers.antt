use Rattle.std.proofs.Common.{sym, ◌∙◌, refl, ap, ◌≡◌, ◌<◌, ◌++◌, take, subst, arith, length}
use Rattle.std.proofs.Common.{slice_get, Some}
use Rattle.slice_method.specs.declared.Method.{Method}
use Rattle.window_sums.specs.Slices.{slice_of}
use Rattle.kept_sums.specs.Objectives.{made_for}
use Rattle.kept_sums.specs.Sums.{RowFits}
use Rattle.kept_sums.proofs.FollowLemmas.{follow_begins, follow_ends, follow_may, follow_next}
use Rattle.kept_sums.proofs.FollowLemmas.{verdict_there}
use Rattle.kept_sums.proofs.ListLemmas.{all_at, get_index}
use Rattle.kept_sums.proofs.batch.count_batch.Goals as goal

pub loop-place-init : goal.loop-place-init
loop-place-init c = record {
  followed = follow_begins c.args.measure.now (made_for c.args.pool c.args.book.now.exclusions)
      c.args.book.now.rows
      c.args.rows.now c.args.sums.now
      c.rows_are_current.ensures c.requires.kept c.requires.forms;
  touched = λ slice none. refl;
}

pub bounds-verdicts-place : goal.bounds-verdicts-place
bounds-verdicts-place c =
    verdict_there c.args.book.now.rows c.args.rows.now c.args.verdicts.now c.loop-place.place
    c.index-rows-place.result c.requires.verdicts
    (get_index c.args.rows.now c.loop-place.place c.index-rows-place.result c.loop-place-test.true
    c.index-rows-place.is)

pub follow_row-requires : goal.follow_row-requires
follow_row-requires c =
    let before = c.args.book.now.rows in
    let rows = c.args.rows.now in
    let at = c.loop-place.place in
    let row = c.index-rows-place.result in
    let here = get_index rows at row c.loop-place-test.true c.index-rows-place.is in
    let less : at < length c.args.verdicts.now =
    verdict_there before rows c.args.verdicts.now at row c.requires.verdicts here in
    let judged = subst (λ l. slice_get l at ≡ Some c.index-verdicts-place.result)
    c.requires.verdicts (get_index c.args.verdicts.now at c.index-verdicts-place.result less
    c.index-verdicts-place.is) in
    record {
      may = (
        before ++ take at rows,
        follow_may c.args.measure.now (made_for c.args.pool c.args.book.now.exclusions)
            before rows at row c.index-verdicts-place.result c.args.sums.now c.loop-place.sums
            c.loop-place.invariant.followed here judged
            c.requires.fit c.requires.days c.requires.few,
      );
    }

pub loop-place-preserved : goal.loop-place-preserved
loop-place-preserved c =
    let before = c.args.book.now.rows in
    let rows = c.args.rows.now in
    let at = c.loop-place.place in
    let row = c.index-rows-place.result in
    let here = get_index rows at row c.loop-place-test.true c.index-rows-place.is in
    let less : at < length c.args.verdicts.now =
    verdict_there before rows c.args.verdicts.now at row c.requires.verdicts here in
    let judged = subst (λ l. slice_get l at ≡ Some c.index-verdicts-place.result)
    c.requires.verdicts (get_index c.args.verdicts.now at c.index-verdicts-place.result less
    c.index-verdicts-place.is) in
    let given = get_index c.args.verdicts.now at c.index-verdicts-place.result less
    c.index-verdicts-place.is in
    let may = follow_may c.args.measure.now (made_for c.args.pool c.args.book.now.exclusions)
    before rows at row c.index-verdicts-place.result c.args.sums.now c.loop-place.sums
    c.loop-place.invariant.followed here judged
    c.requires.fit c.requires.days c.requires.few in
    record {
      followed = follow_next c.args.measure.now (made_for c.args.pool c.args.book.now.exclusions)
          before
          rows at row c.args.sums.now c.loop-place.sums c.follow_row.new.sums
          c.loop-place.invariant.followed here
          (all_at (RowFits c.args.measure.now) rows at row here c.requires.fit)
          (c.follow_row.ensures.kept (before ++ take at rows) may) c.follow_row.ensures.days;
      touched = λ slice none.
          c.follow_row.ensures.touched slice (λ is same. none (record {
            place = at;
            row = row;
            verdict = c.index-verdicts-place.result;
            here = here;
            judged = given;
            moved = is;
            lies = ap (λ (m : Method). slice_of m row.minute)
                (sym c.loop-place.invariant.followed.kept.method) ∙ sym same;
          })) ∙ c.loop-place.invariant.touched slice none;
    }

pub returns-clause-kept : goal.returns-clause-kept
returns-clause-kept c =
    follow_ends c.args.measure.now (made_for c.args.pool c.args.book.now.exclusions)
    c.args.book.now.rows c.args.rows.now
    c.loop-place.place c.args.sums.now c.loop-place.sums c.loop-place.invariant.followed
    (omega (arith, c.loop-place-test.false, c.loop-place.auto.place-end))

pub returns-clause-days : goal.returns-clause-days
returns-clause-days c = c.loop-place.invariant.followed.days
