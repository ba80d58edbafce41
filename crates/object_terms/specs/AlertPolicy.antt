-- Alert policies (OpenSLO v1, AlertPolicy).
use Rattle.std.specs.Prelude.{ℕ, List, Bool, true, nat_le, codes, Option, Some, None}
use Rattle.yaml_terms.specs.Tree.{Tree}
use Rattle.object_terms.specs.declared.kind.Kind.TheVariants as kinds
use Rattle.object_terms.specs.declared.alert_policy.AlertPolicy.{AlertPolicy}
use Rattle.object_terms.specs.declared.object.Body.{Body}
use Rattle.object_terms.specs.declared.object.Body.TheVariants as bodies
use Rattle.object_terms.specs.Form.{Key, Answer, list_with, Form, FieldTable, done, ◌of◌, ◌>>=◌}
use Rattle.object_terms.specs.Form.{optional, map_with, variant, written_where}
use Rattle.object_terms.specs.Scalars.{description, boolean}
use Rattle.object_terms.specs.Inline.{reference_item, reference_written}
use Rattle.object_terms.specs.AlertCondition.{condition_body}
use Rattle.object_terms.specs.AlertNotificationTarget.{target_body}
use Rattle.object_terms.specs.declared.keys.TheConstants.{ALERT_WHEN_BREACHING, ALERT_WHEN_NO_DATA}
use Rattle.object_terms.specs.declared.keys.TheConstants.{ALERT_WHEN_RESOLVED, CONDITIONS}
use Rattle.object_terms.specs.declared.keys.TheConstants.{CONDITION_REF, NOTIFICATION_TARGETS}
use Rattle.object_terms.specs.declared.keys.TheConstants.{TARGET_REF, DESCRIPTION}

abbrev pub at_most_one : ℕ → Bool
at_most_one n = nat_le n 1

abbrev pub any_number_of : ℕ → Bool
any_number_of n = true

-- the items of `conditions` and of `notificationTargets`
abbrev pub condition_item : Key → List Key → Tree → Answer Key
condition_item = reference_item CONDITION_REF.now kinds.AlertCondition condition_body

abbrev pub target_item : Key → List Key → Tree → Answer Key
target_item = reference_item TARGET_REF.now kinds.AlertNotificationTarget target_body

abbrev pub conditions : Form (List Key)
conditions = list_with at_most_one condition_item (reference_written CONDITION_REF.now)

abbrev pub targets : Form (List Key)
targets = list_with any_number_of target_item (reference_written TARGET_REF.now)

-- `spec`: at most one condition, and any number of targets
unfoldable pub alert_policy : FieldTable AlertPolicy
alert_policy = do
  description ← optional DESCRIPTION.now description of λ p. p.description
  alert_when_no_data ← optional ALERT_WHEN_NO_DATA.now boolean of λ p. p.alert_when_no_data
  alert_when_resolved ← optional ALERT_WHEN_RESOLVED.now boolean of λ p. p.alert_when_resolved
  alert_when_breaching ← optional ALERT_WHEN_BREACHING.now boolean of λ p. p.alert_when_breaching
  conditions ← optional CONDITIONS.now conditions of λ p. p.conditions
  notification_targets ← optional NOTIFICATION_TARGETS.now targets of λ p. p.notification_targets
  done (record {
    description = description;
    alert_when_no_data = alert_when_no_data;
    alert_when_resolved = alert_when_resolved;
    alert_when_breaching = alert_when_breaching;
    conditions = conditions;
    notification_targets = notification_targets;
  })

-- the object's body
abbrev pub policy_in : Body → Option AlertPolicy
policy_in (bodies.AlertPolicy p) = Some p
policy_in _ = None

abbrev pub policy_body : Form Body
policy_body = variant (map_with alert_policy) bodies.AlertPolicy
    (written_where (map_with alert_policy) policy_in)
