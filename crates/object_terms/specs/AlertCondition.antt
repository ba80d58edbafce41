-- Alert conditions (OpenSLO v1, AlertCondition).
use Rattle.std.specs.Prelude.{List, [], ◌∷◌, Result, codes, Option, Some, None}
use Rattle.yaml_terms.specs.Spelling.{word}
use Rattle.object_terms.specs.declared.alert_condition.AlertCondition.{AlertCondition}
use Rattle.object_terms.specs.declared.alert_condition.Condition.{Condition}
use Rattle.object_terms.specs.declared.alert_condition.ConditionKind.{ConditionKind}
use Rattle.object_terms.specs.declared.alert_condition.ConditionKind.TheVariants.{Burnrate}
use Rattle.object_terms.specs.declared.fault.Rule.{Rule}
use Rattle.object_terms.specs.declared.fault.Rule.TheVariants as rules
use Rattle.object_terms.specs.declared.object.Body.{Body}
use Rattle.object_terms.specs.declared.object.Body.TheVariants as bodies
use Rattle.object_terms.specs.Form.{Key, Form, FieldTable, done, ◌of◌, ◌>>=◌, required, optional}
use Rattle.object_terms.specs.Form.{map_with, scalar_form, variant, written_where}
use Rattle.object_terms.specs.Ranges.{lookback_range, threshold_range, wait_range}
use Rattle.object_terms.specs.Scalars.{description, text, op, found_or, of_word, number}
use Rattle.object_terms.specs.Durations.{duration}
use Rattle.object_terms.specs.declared.keys.TheConstants.{ALERT_AFTER, CONDITION, LOOKBACK_WINDOW}
use Rattle.object_terms.specs.declared.keys.TheConstants.{SEVERITY, THRESHOLD, DESCRIPTION, KIND}
use Rattle.object_terms.specs.declared.keys.TheConstants.{OP}

-- the one kind of conditions
abbrev pub condition_word : ConditionKind → Key
condition_word Burnrate = codes "burnrate"

abbrev pub all_condition_kinds : List ConditionKind
all_condition_kinds = Burnrate ∷ []

unfoldable pub condition_kind_value : Key → Result ConditionKind Rule
condition_kind_value bytes =
    found_or rules.BadWord (of_word condition_word all_condition_kinds bytes)

abbrev pub condition_kind : Form ConditionKind
condition_kind = scalar_form rules.BadWord condition_kind_value (λ k. word (condition_word k))

-- `condition`
unfoldable pub condition : FieldTable Condition
condition = do
  kind ← optional KIND.now condition_kind of λ c. c.kind
  op ← optional OP.now op of λ c. c.op
  threshold ← required THRESHOLD.now (number threshold_range) of λ c. c.threshold
  lookback_window ← required LOOKBACK_WINDOW.now (duration lookback_range) of λ c. c.lookback_window
  alert_after ← optional ALERT_AFTER.now (duration wait_range) of λ c. c.alert_after
  done (record {
    kind = kind;
    op = op;
    threshold = threshold;
    lookback_window = lookback_window;
    alert_after = alert_after;
  })

-- `spec`
unfoldable pub alert_condition : FieldTable AlertCondition
alert_condition = do
  description ← optional DESCRIPTION.now description of λ c. c.description
  severity ← required SEVERITY.now text of λ c. c.severity
  condition ← required CONDITION.now (map_with condition) of λ c. c.condition
  done (record { description = description; severity = severity; condition = condition })

-- the object's body
abbrev pub condition_in : Body → Option AlertCondition
condition_in (bodies.AlertCondition c) = Some c
condition_in _ = None

abbrev pub condition_body : Form Body
condition_body = variant (map_with alert_condition) bodies.AlertCondition
    (written_where (map_with alert_condition) condition_in)
