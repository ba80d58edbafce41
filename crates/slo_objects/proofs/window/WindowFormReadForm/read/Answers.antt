use Rattle.std.proofs.Common.{sym}
use Rattle.std.proofs.lemmas.Result.{err_from_is_err_and}
use Rattle.object_terms.specs.Slo.{time_window}
use Rattle.object_fields.proofs.ReadLemmas.{fails_then, fails_behind, reads_behind}
use Rattle.slo_objects.proofs.window.WindowFormReadForm.read.Goals as goal

-- line by line
pub returns : goal.returns
unfolding time_window
returns c =
    rw (sym c.in-Some.ensures)
    (reads_behind _ _ _ _ _ _ _ c.in_ok-duration.ensures
    (reads_behind _ _ _ _ _ _ _ c.in_ok-is_rolling_field.ensures
    (reads_behind _ _ _ _ _ _ _ (rw (c.may_have_unit-fits.ensures, c.is_rolling-rolling.ensures)
    at c.in_ok-check_unit.ensures)
    (reads_behind _ _ _ _ _ _ _ (rw c.is_rolling-rolling.ensures at c.in_ok-calendar.ensures)
    c.close_with.ensures))))

pub returns-in_err-calendar : goal.returns-in_err-calendar
unfolding time_window
returns-in_err-calendar c =
    let r = c.from_residual-in_err-calendar in
    let p = err_from_is_err_and r.result r.ensures.1 in
    rw (p.1, p.2, sym c.in-Some.ensures)
    (fails_behind _ _ _ _ _ _ c.in_ok-duration.ensures
    (fails_behind _ _ _ _ _ _ c.in_ok-is_rolling_field.ensures
    (fails_behind _ _ _ _ _ _ (rw (c.may_have_unit-fits.ensures, c.is_rolling-rolling.ensures)
    at c.in_ok-check_unit.ensures)
    (fails_then _ _ _ (rw c.is_rolling-rolling.ensures at c.in_err-calendar.ensures)))))
