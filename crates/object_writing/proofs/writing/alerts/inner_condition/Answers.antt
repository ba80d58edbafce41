use Rattle.std.proofs.Common.{ap, ◌∙◌}
use Rattle.yaml_terms.specs.Spelling.{fields, no_fields}
use Rattle.object_terms.specs.Form.{fields_by}
use Rattle.object_terms.specs.AlertCondition.{condition}
use Rattle.object_writing.specs.Adding.{before}
use Rattle.object_writing.proofs.writing.alerts.inner_condition.Goals as goal

-- line by line, from the last to the first
pub returns : goal.returns
unfolding condition
returns c = c.map_of.ensures ∙ ap fields
    (c.in_ok-optional_wait.ensures no_fields
    ∙ c.in_ok-required_duration.ensures _
    ∙ c.in_ok-required_number.ensures _
    ∙ c.in_ok-optional_op.ensures _
    ∙ c.in_ok-optional_condition_kind.ensures _
    ∙ ap (λ ps. before ps (fields_by condition c.args.value.now)) c.new-fields.ensures.items)
