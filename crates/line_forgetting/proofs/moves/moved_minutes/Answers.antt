use Rattle.std.proofs.Common.{◌<◌, ◌+◌, sym, subst, ◌∙◌, arith, length}
use Rattle.kept_sums.proofs.ListLemmas.{get_index}
use Rattle.line_forgetting.specs.Moves.{AreTold, IsMovedSoFar}
use Rattle.line_forgetting.proofs.ToldLemmas.{told-begins, told-ends, told-goes, told-passes}
use Rattle.line_forgetting.proofs.moves.moved_minutes.Goals.{then-changes_counts}
use Rattle.line_forgetting.proofs.moves.moved_minutes.Goals.{else-changes_counts}
use Rattle.line_forgetting.proofs.moves.moved_minutes.Goals as goal

pub loop-place-init : goal.loop-place-init
loop-place-init c = told-begins c.args.measure.now.sli c.args.rows.now c.args.verdicts.now

pub loop-place-preserved : goal.loop-place-preserved
loop-place-preserved c =
    let sli = c.args.measure.now.sli in
    let rows = c.args.rows.now in
    let verdicts = c.args.verdicts.now in
    let at = c.loop-place.place in
    let row = c.index-rows-place.result in
    let verdict = c.index-verdicts-place.result in
    let here = get_index rows at row c.loop-place-test.true c.index-rows-place.is in
    let less : at < length verdicts = omega (arith, c.loop-place-test.true, c.requires.judged) in
    let judged = get_index verdicts at verdict less c.index-verdicts-place.is in
    let by_now = IsMovedSoFar sli rows verdicts (at + 1) in
    elim c.if-changes_counts.branch [
      | then-changes_counts w ↦
          let is = sym c.changes_counts.ensures ∙ w.if-changes_counts.true in
          subst (AreTold by_now) (sym (w.minutes-is ∙ w.with_minute-minutes.ensures))
          (told-goes sli rows verdicts at row verdict c.loop-place.minutes here judged is
          c.loop-place.invariant)
      | else-changes_counts w ↦
          let still = sym c.changes_counts.ensures ∙ w.if-changes_counts.false in
          subst (AreTold by_now) (sym w.minutes-is)
          (told-passes sli rows verdicts at row verdict c.loop-place.minutes here judged still
          c.loop-place.invariant)
    ]

pub returns : goal.returns
returns c =
    told-ends c.args.measure.now.sli c.args.rows.now c.args.verdicts.now c.loop-place.place
    c.loop-place.minutes (omega (arith, c.loop-place-test.false)) c.loop-place.invariant
