use Rattle.std.proofs.Common.{◌≡◌, drop}
use Rattle.object_terms.specs.Form.{field_of}
use Rattle.object_fields.specs.Reading.{entries_view}
use Rattle.object_fields.proofs.fields.field.Given as goal

-- none so far is the field
abbrev pub invariant-loop-name : goal.invariant-loop-name
invariant-loop-name l = field_of l.key (entries_view (drop l.name-index l.fields))
    ≡ field_of l.key (entries_view l.fields)
