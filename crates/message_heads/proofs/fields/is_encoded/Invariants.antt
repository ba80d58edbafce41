use Rattle.std.proofs.Common.{◌≡◌, map, drop, codes}
use Rattle.std.specs.List.{list_any}
use Rattle.httparse.specs.Spans.{header_bytes}
use Rattle.message_heads.specs.Fields.{is_named, is_encoded}
use Rattle.message_heads.proofs.fields.is_encoded.Given as goal

-- the fields that are left say what all say
abbrev pub invariant-loop-field : goal.invariant-loop-field
invariant-loop-field l = is_encoded (map (header_bytes l.bytes) (drop l.field-index l.fields))
    ≡ is_encoded (map (header_bytes l.bytes) l.fields)
