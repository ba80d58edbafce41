use Rattle.std.proofs.Common.{◌≡◌, map, take}
use Rattle.httparse.specs.Spans.{header_bytes}
use Rattle.message_heads.specs.Fields.{values_named}
use Rattle.message_heads.specs.Named.{named_of, sort_of}
use Rattle.message_heads.proofs.fields.only_value.Given as goal

abbrev pub invariant-loop-field : goal.invariant-loop-field
invariant-loop-field l = named_of l.named
    ≡ sort_of (values_named l.name (map (header_bytes l.bytes) (take l.field-index l.fields)))
