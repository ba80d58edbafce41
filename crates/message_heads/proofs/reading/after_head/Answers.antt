use Rattle.std.proofs.Common.{rules, ◌≡◌, ◌≤◌, ◌<◌, ◌-◌, ◌∙◌, refl, sym, length, map, take, Err, Ok}
use Rattle.httparse.specs.Spans.{header_bytes}
use Rattle.message_heads.specs.BodyLength.{body_or_status}
use Rattle.message_heads.proofs.JudgeLemmas.{behind_refused, behind_more, behind_whole}
use Rattle.message_heads.proofs.reading.after_head.Goals as goal

pub returns-in-Err : goal.returns-in-Err
returns-in-Err c =
    behind_refused c.args.bytes.now c.args.front.now c.args.slots.now c.args.head c.in-Err.status
    c.requires.front c.requires.begins (search rules)

pub returns-then-bytes-whole : goal.returns-then-bytes-whole
returns-then-bytes-whole c =
    behind_more c.args.bytes.now c.args.front.now c.args.slots.now c.args.head c.in-Ok.length
    c.requires.front c.requires.begins (search rules) c.if-bytes-whole.true

pub returns : goal.returns
returns c =
    behind_whole c.args.bytes.now c.args.front.now c.args.slots.now c.args.head c.in-Ok.length
    _ c.requires.front c.requires.begins (search rules) c.if-bytes-whole.false refl refl refl
    c.closes.ensures
