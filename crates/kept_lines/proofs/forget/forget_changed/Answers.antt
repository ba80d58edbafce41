use Rattle.std.proofs.Common.{subst, sym}
use Rattle.std.specs.Int.{◌∣◌}
use Rattle.window_sums.specs.Slices.{width_of}
use Rattle.office_history.specs.declared.Measure.{Measure}
use Rattle.line_forgetting.proofs.RightLemmas.{right-over-exclusions}
use Rattle.kept_sums.specs.Sums.{SumsAreKept}
use Rattle.kept_sums.specs.Walks.{IsChanged}
use Rattle.kept_lines.proofs.ForgetLemmas.{forgets_same}
use Rattle.kept_lines.proofs.forget.forget_changed.Goals as goal

pub width_of-width-requires : goal.width_of-width-requires
width_of-width-requires c =
    subst (λ (m : Measure). width_of m.method ∣ 60) (sym c.measure-measure.ensures.value)
    c.measure-measure.ensures.ranges.width.divides

pub forget_near_exclusion-requires-clause-kept : goal.forget_near_exclusion-requires-clause-kept
forget_near_exclusion-requires-clause-kept c =
    subst (λ (m : Measure). SumsAreKept m c.args.book.now.exclusions c.args.book.now.rows
    c.args.sums.now) (sym c.measure-measure.ensures.value) c.requires.kept

pub returns-clause-forgets : goal.returns-clause-forgets
returns-clause-forgets c =
    let book = c.args.book.now in
    forgets_same (λ m. IsChanged m book.exclusions c.args.value.now book.rows) c.args.watch.now
    c.measure-measure.result.now c.width_of-width.result c.args.line.now
    c.forget_near_exclusion.new.line c.measure-measure.ensures.value c.width_of-width.ensures.value
    c.forget_near_exclusion.ensures

pub returns-clause-right : goal.returns-clause-right
returns-clause-right c = λ begin taken.
    let book = c.args.book.now in
    right-over-exclusions begin book.exclusions c.args.value.now taken book.rows c.args.watch.now
    c.args.line.now c.forget_near_exclusion.new.line c.measure-measure.ensures.ranges.width.some
    (forgets_same (λ m. IsChanged m book.exclusions c.args.value.now book.rows) c.args.watch.now
    c.measure-measure.result.now c.width_of-width.result c.args.line.now
    c.forget_near_exclusion.new.line c.measure-measure.ensures.value c.width_of-width.ensures.value
    c.forget_near_exclusion.ensures)
