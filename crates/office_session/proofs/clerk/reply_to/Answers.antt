use Rattle.std.proofs.Common.{ap, refl}
use Rattle.wire_replies.specs.Heads.{reply_bytes}
use Rattle.office_session.specs.Messages.{asked, at_once, unread}
use Rattle.office_session.proofs.Replying.{has_revisions, tells}
use Rattle.office_session.proofs.clerk.reply_to.Goals as goal

pub ask-outcome-requires-clause-revisions : goal.ask-outcome-requires-clause-revisions
ask-outcome-requires-clause-revisions g c =
    has_revisions c.in-Request.request c.in-Request.ensures.range

pub returns-in-Request : goal.returns-in-Request
returns-in-Request g c last =
    asked c.in-Request.request c.ask-outcome.result c.in-Request.ensures.stands
    c.ask-outcome.ensures (tells _ last _ c.render.ensures.answer)

pub returns-in-NoRequest : goal.returns-in-NoRequest
returns-in-NoRequest g c last =
    at_once c.in-NoRequest.reason c.in-NoRequest.ensures.stands
    (ap (λ answer. reply_bytes last answer) c.immediate_reply.ensures.answer) refl

pub returns-in-NoMemory : goal.returns-in-NoMemory
returns-in-NoMemory g c last = unread refl refl
