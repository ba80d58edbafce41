use Rattle.wire_replies.specs.Bodies.{status_data}
use Rattle.wire_replies.proofs.RenderLemmas.{status_is_told}
use Rattle.wire_replies.proofs.rendering.render.Goals as goal

pub returns-in-Status-clause-answer : goal.returns-in-Status-clause-answer
returns-in-Status-clause-answer c =
    status_is_told c.args.value c.in-Status.fullness c.full-in-Status.result c.in-Status.is
    (c.full-in-Status.ensures (status_data c.in-Status.fullness) c.status.ensures)
