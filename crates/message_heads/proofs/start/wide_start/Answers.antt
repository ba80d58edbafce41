use Rattle.std.proofs.Common.{rules, ◌≡◌, ◌<◌, List, ap, Err, drop}
use Rattle.httparse.specs.declared.spans.HeaderSpan.{HeaderSpan}
use Rattle.httparse.specs.Spans.{IsRequestOf}
use Rattle.message_heads.proofs.Room.{never_exceeds}
use Rattle.message_heads.proofs.Wide.{wide}
use Rattle.message_heads.proofs.start.wide_start.Goals as goal

pub returns-in-Ok-Complete : goal.returns-in-Ok-Complete
returns-in-Ok-Complete c slots =
    wide c.args.front.now c.parse_request.new.headers c.in-Ok-Complete.head c.requires.wide
    (search rules)

pub returns-in-Err : goal.returns-in-Err
returns-in-Err c slots =
    c.in-Err.ensures.invalid (λ e. never_exceeds c.args.front.now c.requires.few
    (c.in-Err.ensures.too_many (ap Err e)))
