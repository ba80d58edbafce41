use Rattle.std.proofs.Common.{rules, ◌≡◌, ◌≤◌, ◌<◌, ◌++◌, min, length, take, drop, arith, sym, ap}
use Rattle.std.proofs.Common.{refl, Some}
use Rattle.std.proofs.lemmas.List.{take-append-drop, length-take}
use Rattle.message_heads.proofs.FrontLemmas.{front_of, front_wide, front_more, front_full}
use Rattle.message_heads.proofs.FrontLemmas.{front_never}
use Rattle.message_heads.proofs.reading.hear.Goals as goal

pub after_head-requires-clause-front : goal.after_head-requires-clause-front
after_head-requires-clause-front c = front_of c.args.bytes.now c.min.result c.min.ensures

pub returns-in-Wide : goal.returns-in-Wide
returns-in-Wide c = front_wide c.args.bytes.now c.min.result c.find_head.new.slots c.in-Wide.field-0
    c.min.ensures (search rules)

pub returns-then-front-lt-MAX_HEAD_BYTES : goal.returns-then-front-lt-MAX_HEAD_BYTES
returns-then-front-lt-MAX_HEAD_BYTES c = front_more c.args.bytes.now c.min.result c.min.ensures
    (c.if-front-lt-MAX_HEAD_BYTES.true) (search rules)

pub returns-else-front-lt-MAX_HEAD_BYTES : goal.returns-else-front-lt-MAX_HEAD_BYTES
returns-else-front-lt-MAX_HEAD_BYTES c = front_full c.args.bytes.now c.min.result c.min.ensures
    (c.if-front-lt-MAX_HEAD_BYTES.false) (search rules)

pub returns-in-Never : goal.returns-in-Never
returns-in-Never c =
    front_never c.args.bytes.now c.min.result c.status_of_no_head.result c.status_of_no_head.ensures
