use Rattle.std.proofs.Common.{◌≡◌, map, drop, codes}
use Rattle.std.specs.Prelude.{◌&&◌}
use Rattle.std.specs.List.{list_any}
use Rattle.httparse.specs.Spans.{header_bytes}
use Rattle.message_heads.specs.Fields.{is_named, has_close}
use Rattle.message_heads.proofs.fields.closes.Given as goal

-- the fields that are left say what all say
abbrev pub invariant-loop-field : goal.invariant-loop-field
invariant-loop-field l =
    list_any (λ f. is_named (codes "connection") f && has_close f.1)
    (map (header_bytes l.bytes) (drop l.field-index l.fields))
    ≡ list_any (λ f. is_named (codes "connection") f && has_close f.1)
    (map (header_bytes l.bytes) l.fields)
