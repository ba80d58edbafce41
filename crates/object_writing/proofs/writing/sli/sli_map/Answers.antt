use Rattle.std.proofs.Common.{ap, ◌∙◌}
use Rattle.yaml_terms.specs.Spelling.{fields, no_fields}
use Rattle.object_terms.specs.Form.{fields_by}
use Rattle.object_terms.specs.Sli.{sli}
use Rattle.object_writing.specs.Adding.{before}
use Rattle.object_writing.proofs.writing.sli.sli_map.Goals as goal

-- line by line, from the last to the first
pub returns : goal.returns
unfolding sli
returns c = c.map_of.ensures ∙ ap fields
    (c.in_ok-put_metric.ensures no_fields
    ∙ c.in_ok-optional_description.ensures _
    ∙ ap (λ ps. before ps (fields_by sli c.args.value.now)) c.new-fields.ensures.items)
