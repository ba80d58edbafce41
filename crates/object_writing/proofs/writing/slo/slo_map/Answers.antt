use Rattle.std.proofs.Common.{ap, ◌∙◌}
use Rattle.yaml_terms.specs.Spelling.{fields, no_fields}
use Rattle.object_terms.specs.Form.{fields_by}
use Rattle.object_terms.specs.Slo.{slo}
use Rattle.object_writing.specs.Adding.{before}
use Rattle.object_writing.proofs.writing.slo.slo_map.Goals as goal

-- line by line, from the last to the first
pub returns : goal.returns
unfolding slo
returns c = c.map_of.ensures ∙ ap fields
    (c.in_ok-optional_policies.ensures no_fields
    ∙ c.in_ok-required_objectives.ensures _
    ∙ c.in_ok-required_method.ensures _
    ∙ c.in_ok-required_window.ensures _
    ∙ c.in_ok-required_name-2.ensures _
    ∙ c.in_ok-required_name.ensures _
    ∙ c.in_ok-optional_description.ensures _
    ∙ ap (λ ps. before ps (fields_by slo c.args.value.now)) c.new-fields.ensures.items)
