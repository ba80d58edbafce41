use Rattle.std.proofs.Common.{sym}
use Rattle.object_terms.specs.AlertNotificationTarget.{alert_notification_target}
use Rattle.object_fields.proofs.ReadLemmas.{reads_behind}
use Rattle.slo_objects.proofs.alert_notification_target.TargetFormReadForm.read.Goals as goal

-- line by line
pub returns : goal.returns
unfolding alert_notification_target
returns c =
    rw (sym c.in-Some.ensures)
    (reads_behind _ _ _ _ _ _ _ c.in_ok-description.ensures
    (reads_behind _ _ _ _ _ _ _ c.in-Ok.ensures
    c.close_with.ensures))
