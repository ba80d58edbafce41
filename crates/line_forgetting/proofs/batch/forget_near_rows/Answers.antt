use Rattle.std.proofs.Common.{◌≡◌, ◌<◌, ◌+◌, ◌/◌, ℕ, refl, sym, subst, ◌∙◌, arith, length, Some}
use Rattle.burn_core.specs.declared.AlertRule.{AlertRule}
use Rattle.burn_core.specs.Alert.{reach_of}
use Rattle.alert_line.specs.Line.{Line}
use Rattle.kept_sums.specs.Replacing.{HasMoved}
use Rattle.kept_sums.proofs.FollowLemmas.{verdict_there}
use Rattle.kept_sums.proofs.ListLemmas.{get_index}
use Rattle.line_forgetting.specs.Touched.{HasMovedBefore, IsForgetting, IsRun}
use Rattle.line_forgetting.proofs.ForgetLemmas.{forgetting-begins, forgetting-ends, forgetting-goes}
use Rattle.line_forgetting.proofs.ForgetLemmas.{forgetting-passes, touches-one}
use Rattle.line_forgetting.proofs.MovedLemmas.{moved-ends, moved-here, moved-next, moved-passes}
use Rattle.line_forgetting.proofs.MovedLemmas.{none-moved}
use Rattle.line_forgetting.proofs.batch.forget_near_rows.Goals.{then-changes_counts}
use Rattle.line_forgetting.proofs.batch.forget_near_rows.Goals.{else-changes_counts}
use Rattle.line_forgetting.proofs.batch.forget_near_rows.Goals as goal

pub loop-place-init : goal.loop-place-init
loop-place-init c =
    let m = c.args.measure.now in
    let rows = c.args.rows.now in
    let verdicts = c.args.verdicts.now in
    forgetting-begins (HasMoved m rows verdicts) (HasMovedBefore m rows verdicts 0) c.args.width
    c.args.line.now (none-moved m rows verdicts)

pub bounds-verdicts-place : goal.bounds-verdicts-place
bounds-verdicts-place c =
    verdict_there c.args.book.now.rows c.args.rows.now c.args.verdicts.now c.loop-place.place
    c.index-rows-place.result c.requires.verdicts
    (get_index c.args.rows.now c.loop-place.place c.index-rows-place.result c.loop-place-test.true
    c.index-rows-place.is)

pub loop-place-preserved : goal.loop-place-preserved
loop-place-preserved c =
    let m = c.args.measure.now in
    let rows = c.args.rows.now in
    let verdicts = c.args.verdicts.now in
    let width = c.args.width in
    let at = c.loop-place.place in
    let row = c.index-rows-place.result in
    let verdict = c.index-verdicts-place.result in
    let here = get_index rows at row c.loop-place-test.true c.index-rows-place.is in
    let less : at < length verdicts =
    verdict_there c.args.book.now.rows rows verdicts at row c.requires.verdicts here in
    let judged = get_index verdicts at verdict less c.index-verdicts-place.is in
    let before = c.args.line.now in
    let rule : ◌≡◌ {A = AlertRule} before.rule c.args.rule.now = c.requires.rule in
    let all = HasMoved m rows verdicts in
    let so_far = HasMovedBefore m rows verdicts at in
    let by_now = HasMovedBefore m rows verdicts (at + 1) in
    elim c.if-changes_counts.branch [
      | then-changes_counts w ↦
          let is = sym c.changes_counts.ensures ∙ w.if-changes_counts.true in
          let more : ℕ → Type 0 = λ slice. slice ≡ row.minute / width in
          let shape = subst (λ (r : AlertRule). IsRun width (reach_of r) w.touch.result) (sym rule)
          w.touch.ensures.run in
          let step = touches-one more width (reach_of before.rule) (row.minute / width)
          c.loop-place.waiting w.touch.result c.loop-place.line w.touch.new.line
          (λ slice e. e) refl shape w.touch.ensures.has w.touch.ensures.own w.touch.ensures.all
          w.touch.ensures.only in
          subst (λ waiting. IsForgetting all by_now width waiting before c.if-changes_counts.line)
          (sym w.waiting-is)
          (subst (λ (line : Line). IsForgetting all by_now width (Some w.touch.result) before line)
          (sym w.line-is)
          (forgetting-goes all so_far by_now more width c.loop-place.waiting (Some w.touch.result)
          before c.loop-place.line w.touch.new.line
          (λ slice. moved-here m rows verdicts width at row verdict slice c.requires.width here
          judged is)
          (λ slice. moved-next m rows verdicts width at row slice c.requires.width here)
          step c.loop-place.invariant))
      | else-changes_counts w ↦
          let still = sym c.changes_counts.ensures ∙ w.if-changes_counts.false in
          subst (λ waiting. IsForgetting all by_now width waiting before c.if-changes_counts.line)
          (sym w.waiting-is)
          (subst (λ (line : Line). IsForgetting all by_now width c.loop-place.waiting before line)
          (sym w.line-is)
          (forgetting-passes all so_far by_now width c.loop-place.waiting before c.loop-place.line
          (λ slice. moved-passes m rows verdicts at row verdict slice here judged still)
          c.loop-place.invariant))
    ]

pub returns : goal.returns
returns c =
    let m = c.args.measure.now in
    let rows = c.args.rows.now in
    let verdicts = c.args.verdicts.now in
    forgetting-ends (HasMoved m rows verdicts) (HasMovedBefore m rows verdicts c.loop-place.place)
    c.args.width c.loop-place.waiting c.args.line.now c.loop-place.line c.forget_waiting.new.line
    (λ slice. moved-ends m rows verdicts c.loop-place.place slice
    (omega (arith, c.loop-place-test.false)))
    c.loop-place.invariant c.forget_waiting.ensures
