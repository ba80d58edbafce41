use Rattle.std.proofs.Common.{ap, ◌∙◌}
use Rattle.yaml_terms.specs.Spelling.{fields, no_fields}
use Rattle.object_terms.specs.Form.{fields_by}
use Rattle.object_terms.specs.DataSource.{data_source}
use Rattle.object_writing.specs.Adding.{before}
use Rattle.object_writing.proofs.writing.service.data_source_map.Goals as goal

-- line by line, from the last to the first
pub returns : goal.returns
unfolding data_source
returns c = c.map_of.ensures ∙ ap fields
    (c.in_ok-optional_free.ensures no_fields
    ∙ c.in_ok-required_text.ensures _
    ∙ c.in_ok-optional_description.ensures _
    ∙ ap (λ ps. before ps (fields_by data_source c.args.value.now)) c.new-fields.ensures.items)
