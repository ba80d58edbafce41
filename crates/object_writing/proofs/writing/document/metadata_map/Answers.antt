use Rattle.std.proofs.Common.{ap, ◌∙◌}
use Rattle.yaml_terms.specs.Spelling.{fields, no_fields}
use Rattle.object_terms.specs.Form.{fields_by}
use Rattle.object_terms.specs.Metadata.{metadata, metadata_of}
use Rattle.object_writing.specs.Adding.{before}
use Rattle.object_writing.proofs.writing.document.metadata_map.Goals as goal

-- line by line, from the last to the first
pub returns : goal.returns
unfolding metadata
returns c = c.map_of.ensures ∙ ap fields
    (c.in_ok-optional_free_map-2.ensures no_fields
    ∙ c.in_ok-optional_free_map.ensures _
    ∙ c.in_ok-optional_text.ensures _
    ∙ c.in_ok-required_name.ensures _
    ∙ ap (λ ps. before ps (fields_by metadata (metadata_of c.args.value.now)))
    c.new-fields.ensures.items)
