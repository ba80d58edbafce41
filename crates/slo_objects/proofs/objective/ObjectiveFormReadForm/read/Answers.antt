use Rattle.std.proofs.Common.{sym}
use Rattle.std.proofs.lemmas.Result.{err_from_is_err_and}
use Rattle.object_terms.specs.Slo.{objective}
use Rattle.object_fields.proofs.ReadLemmas.{fails_then, fails_behind, reads_behind}
use Rattle.slo_objects.proofs.objective.ObjectiveFormReadForm.read.Goals as goal

-- line by line
pub returns : goal.returns
unfolding objective
returns c =
    rw (sym c.in-Some.ensures)
    (reads_behind _ _ _ _ _ _ _ c.in_ok-display_name.ensures
    (reads_behind _ _ _ _ _ _ _ c.in_ok-op.ensures
    (reads_behind _ _ _ _ _ _ _ c.in_ok-value.ensures
    (reads_behind _ _ _ _ _ _ _ c.in_ok-target.ensures
    (reads_behind _ _ _ _ _ _ _
    (rw c.has_slice_target-wants_target.ensures at c.in_ok-time_slice_target.ensures)
    (reads_behind _ _ _ _ _ _ _
    (rw c.has_slices-wants_width.ensures at c.in_ok-time_slice_window.ensures)
    c.close_with.ensures))))))

pub returns-in_err-time_slice_target : goal.returns-in_err-time_slice_target
unfolding objective
returns-in_err-time_slice_target c =
    let r = c.from_residual-in_err-time_slice_target in
    let p = err_from_is_err_and r.result r.ensures.1 in
    rw (p.1, p.2, sym c.in-Some.ensures)
    (fails_behind _ _ _ _ _ _ c.in_ok-display_name.ensures
    (fails_behind _ _ _ _ _ _ c.in_ok-op.ensures
    (fails_behind _ _ _ _ _ _ c.in_ok-value.ensures
    (fails_behind _ _ _ _ _ _ c.in_ok-target.ensures
    (fails_then _ _ _ (rw c.has_slice_target-wants_target.ensures at
    c.in_err-time_slice_target.ensures))))))

pub returns-in_err-time_slice_window : goal.returns-in_err-time_slice_window
unfolding objective
returns-in_err-time_slice_window c =
    let r = c.from_residual-in_err-time_slice_window in
    let p = err_from_is_err_and r.result r.ensures.1 in
    rw (p.1, p.2, sym c.in-Some.ensures)
    (fails_behind _ _ _ _ _ _ c.in_ok-display_name.ensures
    (fails_behind _ _ _ _ _ _ c.in_ok-op.ensures
    (fails_behind _ _ _ _ _ _ c.in_ok-value.ensures
    (fails_behind _ _ _ _ _ _ c.in_ok-target.ensures
    (fails_behind _ _ _ _ _ _
    (rw c.has_slice_target-wants_target.ensures at c.in_ok-time_slice_target.ensures)
    (fails_then _ _ _ (rw c.has_slices-wants_width.ensures at
    c.in_err-time_slice_window.ensures)))))))
