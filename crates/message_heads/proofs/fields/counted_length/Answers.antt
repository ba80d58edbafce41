use Rattle.std.proofs.Common.{rules, ◌≡◌, ◌∙◌, sym, List, ℕ, map, Some, codes}
use Rattle.httparse.specs.Spans.{header_bytes}
use Rattle.message_heads.specs.Fields.{values_named, counted_length, only_length}
use Rattle.message_heads.specs.Named.{sort_of}
use Rattle.message_heads.proofs.Lengths.{fits, only}
use Rattle.message_heads.proofs.fields.counted_length.Goals as goal

pub returns-then-value-le19 : goal.returns-then-value-le19
returns-then-value-le19 c =
    c.read_number.ensures.value ∙ fits c.in-One.value.now c.if-value-le19.true
    ∙ only c.in-One.value.now (values_named (codes "content-length")
    (map (header_bytes c.args.bytes.now) c.args.fields.now)) c.in-One.ensures
