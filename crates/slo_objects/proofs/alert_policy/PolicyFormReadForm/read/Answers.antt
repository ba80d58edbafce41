use Rattle.std.proofs.Common.{sym}
use Rattle.object_terms.specs.AlertPolicy.{alert_policy}
use Rattle.object_fields.proofs.ReadLemmas.{fails_then, fails_behind, reads_behind}
use Rattle.slo_objects.proofs.alert_policy.PolicyFormReadForm.read.Goals as goal

-- line by line
pub returns : goal.returns
unfolding alert_policy
returns c =
    rw (sym c.in-Some.ensures)
    (reads_behind _ _ _ _ _ _ _ c.in_ok-description.ensures
    (reads_behind _ _ _ _ _ _ _ c.in_ok-alert_when_no_data.ensures
    (reads_behind _ _ _ _ _ _ _ c.in_ok-alert_when_resolved.ensures
    (reads_behind _ _ _ _ _ _ _ c.in_ok-alert_when_breaching.ensures
    (reads_behind _ _ _ _ _ _ _ c.in-Ok.ensures
    (reads_behind _ _ _ _ _ _ _ c.in-Ok-optional.ensures
    c.close_with.ensures))))))

pub returns-in-Err-optional : goal.returns-in-Err-optional
unfolding alert_policy
returns-in-Err-optional c =
    rw (sym c.in-Some.ensures)
    (fails_behind _ _ _ _ _ _ c.in_ok-description.ensures
    (fails_behind _ _ _ _ _ _ c.in_ok-alert_when_no_data.ensures
    (fails_behind _ _ _ _ _ _ c.in_ok-alert_when_resolved.ensures
    (fails_behind _ _ _ _ _ _ c.in_ok-alert_when_breaching.ensures
    (fails_behind _ _ _ _ _ _ c.in-Ok.ensures
    (fails_then _ _ _ c.in-Err-optional.ensures))))))
