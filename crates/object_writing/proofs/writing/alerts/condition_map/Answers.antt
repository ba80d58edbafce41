use Rattle.std.proofs.Common.{ap, ◌∙◌}
use Rattle.yaml_terms.specs.Spelling.{fields, no_fields}
use Rattle.object_terms.specs.Form.{fields_by}
use Rattle.object_terms.specs.AlertCondition.{alert_condition}
use Rattle.object_writing.specs.Adding.{before}
use Rattle.object_writing.proofs.writing.alerts.condition_map.Goals as goal

-- line by line, from the last to the first
pub returns : goal.returns
unfolding alert_condition
returns c = c.map_of.ensures ∙ ap fields
    ((rw c.in_ok-condition.ensures at c.in_ok-put.ensures) no_fields
    ∙ c.in_ok-required_text.ensures _
    ∙ c.in_ok-optional_description.ensures _
    ∙ ap (λ ps. before ps (fields_by alert_condition c.args.value.now)) c.new-fields.ensures.items)
