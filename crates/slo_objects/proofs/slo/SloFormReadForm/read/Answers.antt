use Rattle.std.proofs.Common.{sym}
use Rattle.object_terms.specs.Slo.{slo}
use Rattle.object_fields.proofs.ReadLemmas.{fails_then, fails_behind, reads_behind}
use Rattle.slo_objects.proofs.slo.SloFormReadForm.read.Goals as goal

-- line by line
pub returns : goal.returns
unfolding slo
returns c =
    rw (sym c.in-Some.ensures)
    (reads_behind _ _ _ _ _ _ _ c.in_ok-description.ensures
    (reads_behind _ _ _ _ _ _ _ c.in_ok-service.ensures
    (reads_behind _ _ _ _ _ _ _ c.in_ok-indicator.ensures
    (reads_behind _ _ _ _ _ _ _ c.in_ok-time_window.ensures
    (reads_behind _ _ _ _ _ _ _ c.in_ok-method.ensures
    (reads_behind _ _ _ _ _ _ _ c.in-Ok.ensures
    (reads_behind _ _ _ _ _ _ _ c.in-Ok-optional.ensures
    c.close_with.ensures)))))))

pub returns-in-Err-optional : goal.returns-in-Err-optional
unfolding slo
returns-in-Err-optional c =
    rw (sym c.in-Some.ensures)
    (fails_behind _ _ _ _ _ _ c.in_ok-description.ensures
    (fails_behind _ _ _ _ _ _ c.in_ok-service.ensures
    (fails_behind _ _ _ _ _ _ c.in_ok-indicator.ensures
    (fails_behind _ _ _ _ _ _ c.in_ok-time_window.ensures
    (fails_behind _ _ _ _ _ _ c.in_ok-method.ensures
    (fails_behind _ _ _ _ _ _ c.in-Ok.ensures
    (fails_then _ _ _ c.in-Err-optional.ensures)))))))
