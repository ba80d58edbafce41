-- Targets of notifications (OpenSLO v1, AlertNotificationTarget).
use Rattle.std.specs.Prelude.{codes, Option, Some, None}
use Rattle.object_terms.specs.declared.alert_notification_target.AlertNotificationTarget as declared
use Rattle.object_terms.specs.declared.object.Body.{Body}
use Rattle.object_terms.specs.declared.object.Body.TheVariants as bodies
use Rattle.object_terms.specs.Form.{FieldTable, done, ◌of◌, ◌>>=◌, required, optional, Form}
use Rattle.object_terms.specs.Form.{map_with, variant, written_where}
use Rattle.object_terms.specs.Scalars.{description, text}
use Rattle.object_terms.specs.declared.keys.TheConstants.{DESCRIPTION, TARGET}

unfoldable pub alert_notification_target : FieldTable declared.AlertNotificationTarget
alert_notification_target = do
  description ← optional DESCRIPTION.now description of λ t. t.description
  target ← required TARGET.now text of λ t. t.target
  done (record { description = description; target = target })

-- the object's body
abbrev pub target_in : Body → Option declared.AlertNotificationTarget
target_in (bodies.AlertNotificationTarget t) = Some t
target_in _ = None

abbrev pub target_body : Form Body
target_body = variant (map_with alert_notification_target) bodies.AlertNotificationTarget
    (written_where (map_with alert_notification_target) target_in)
