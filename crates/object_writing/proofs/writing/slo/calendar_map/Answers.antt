use Rattle.std.proofs.Common.{ap, ◌∙◌}
use Rattle.yaml_terms.specs.Spelling.{fields, no_fields}
use Rattle.object_terms.specs.Form.{fields_by}
use Rattle.object_terms.specs.Slo.{calendar}
use Rattle.object_writing.specs.Adding.{before}
use Rattle.object_writing.proofs.writing.slo.calendar_map.Goals as goal

-- line by line, from the last to the first
pub returns : goal.returns
unfolding calendar
returns c = c.map_of.ensures ∙ ap fields
    ((rw (c.in_ok-zone.ensures, c.as_bytes.ensures.text) at c.in_ok-put-2.ensures) no_fields
    ∙ (rw c.in_ok-start.ensures at c.in_ok-put.ensures) _
    ∙ ap (λ ps. before ps (fields_by calendar c.args.value.now)) c.new-fields.ensures.items)
