use Rattle.std.proofs.Common.{ap, ◌∙◌}
use Rattle.yaml_terms.specs.Spelling.{fields, no_fields}
use Rattle.object_terms.specs.Form.{fields_by}
use Rattle.object_terms.specs.Sli.{source_map}
use Rattle.object_writing.specs.Adding.{before}
use Rattle.object_writing.proofs.writing.sli.source_map.Goals as goal

-- line by line, from the last to the first
pub returns : goal.returns
unfolding source_map
returns c = c.map_of.ensures ∙ ap fields
    ((rw c.in_ok-metric_source.ensures at c.in_ok-put.ensures) no_fields
    ∙ ap (λ ps. before ps (fields_by source_map c.args.value.now)) c.new-fields.ensures.items)
