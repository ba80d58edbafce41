use Rattle.std.proofs.Common.{subst, sym}
use Rattle.std.specs.Int.{◌∣◌}
use Rattle.window_sums.specs.Slices.{width_of}
use Rattle.office_history.specs.declared.Measure.{Measure}
use Rattle.kept_sums.specs.Replacing.{HasMoved}
use Rattle.kept_lines.proofs.ForgetLemmas.{forgets_same, moved_right}
use Rattle.kept_lines.proofs.forget.forget_moved.Goals as goal

pub width_of-width-requires : goal.width_of-width-requires
width_of-width-requires c =
    subst (λ (m : Measure). width_of m.method ∣ 60) (sym c.measure-measure.ensures.value)
    c.measure-measure.ensures.ranges.width.divides

pub returns-clause-forgets : goal.returns-clause-forgets
returns-clause-forgets c =
    forgets_same (λ m. HasMoved m c.args.rows.now c.args.verdicts.now) c.args.watch.now
    c.measure-measure.result.now c.width_of-width.result c.args.line.now
    c.forget_near_batch.new.line
    c.measure-measure.ensures.value c.width_of-width.ensures.value
    c.forget_near_batch.ensures.forgets

pub returns-clause-right : goal.returns-clause-right
returns-clause-right c = λ begin.
    moved_right begin c.args.book.now c.args.rows.now c.args.verdicts.now c.args.watch.now
    c.args.line.now c.forget_near_batch.new.line c.measure-measure.ensures.ranges.width.some
    c.requires.verdicts c.rows_are_current.ensures
    (forgets_same (λ m. HasMoved m c.args.rows.now c.args.verdicts.now) c.args.watch.now
    c.measure-measure.result.now c.width_of-width.result c.args.line.now
    c.forget_near_batch.new.line
    c.measure-measure.ensures.value c.width_of-width.ensures.value
    c.forget_near_batch.ensures.forgets)
