use Rattle.std.proofs.Common.{ap, ◌∙◌}
use Rattle.yaml_terms.specs.Spelling.{fields, no_fields}
use Rattle.object_terms.specs.Form.{fields_by}
use Rattle.object_terms.specs.Slo.{time_window}
use Rattle.object_writing.specs.Adding.{before}
use Rattle.object_writing.proofs.writing.slo.time_window_map.Goals as goal

-- line by line, from the last to the first
pub returns : goal.returns
unfolding time_window
returns c = c.map_of.ensures ∙ ap fields
    (c.in_ok-optional_calendar.ensures no_fields
    ∙ c.in_ok-optional_boolean.ensures _
    ∙ c.in_ok-required_duration.ensures _
    ∙ ap (λ ps. before ps (fields_by time_window c.args.value.now)) c.new-fields.ensures.items)
