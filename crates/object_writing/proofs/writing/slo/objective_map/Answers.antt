use Rattle.std.proofs.Common.{ap, ◌∙◌}
use Rattle.yaml_terms.specs.Spelling.{fields, no_fields}
use Rattle.object_terms.specs.Form.{fields_by}
use Rattle.object_terms.specs.Slo.{objective}
use Rattle.object_writing.specs.Adding.{before}
use Rattle.object_writing.proofs.writing.slo.objective_map.Goals as goal

-- line by line, from the last to the first
pub returns : goal.returns
unfolding objective
returns c = c.map_of.ensures ∙ ap fields
    (c.in_ok-optional_slice_width.ensures no_fields
    ∙ c.in_ok-optional_slice_target.ensures _
    ∙ c.in_ok-required_number.ensures _
    ∙ c.in_ok-optional_value.ensures _
    ∙ c.in_ok-optional_op.ensures _
    ∙ c.in_ok-optional_text.ensures _
    ∙ ap (λ ps. before ps (fields_by (objective c.args._method) c.args.value.now))
    c.new-fields.ensures.items)
