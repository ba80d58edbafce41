use Rattle.std.proofs.Common.{ap, ◌∙◌}
use Rattle.yaml_terms.specs.Spelling.{fields, no_fields}
use Rattle.object_terms.specs.Form.{fields_by}
use Rattle.object_terms.specs.Document.{document}
use Rattle.object_writing.specs.Adding.{before}
use Rattle.object_writing.proofs.writing.document.document_map.Goals as goal

-- line by line, from the last to the first
pub returns : goal.returns
unfolding document
returns c = c.map_of.ensures ∙ ap fields
    ((rw c.in_ok-spec.ensures at c.in_ok-put-2.ensures) no_fields
    ∙ (rw c.in_ok-metadata.ensures at c.in_ok-put.ensures) _
    ∙ (rw c.word.ensures at c.in_ok-required_word-2.ensures) _
    ∙ c.in_ok-required_word.ensures _
    ∙ ap (λ ps. before ps (fields_by document c.args.value.now)) c.new-fields.ensures.items)
