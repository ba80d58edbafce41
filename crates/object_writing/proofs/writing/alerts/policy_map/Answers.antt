use Rattle.std.proofs.Common.{ap, ◌∙◌}
use Rattle.yaml_terms.specs.Spelling.{fields, no_fields}
use Rattle.object_terms.specs.Form.{fields_by}
use Rattle.object_terms.specs.AlertPolicy.{alert_policy}
use Rattle.object_writing.specs.Adding.{before}
use Rattle.object_writing.proofs.writing.alerts.policy_map.Goals as goal

-- line by line, from the last to the first
pub returns : goal.returns
unfolding alert_policy
returns c = c.map_of.ensures ∙ ap fields
    (c.in_ok-optional_targets.ensures no_fields
    ∙ c.in_ok-optional_conditions.ensures _
    ∙ c.in_ok-optional_boolean-3.ensures _
    ∙ c.in_ok-optional_boolean-2.ensures _
    ∙ c.in_ok-optional_boolean.ensures _
    ∙ c.in_ok-optional_description.ensures _
    ∙ ap (λ ps. before ps (fields_by alert_policy c.args.value.now)) c.new-fields.ensures.items)
