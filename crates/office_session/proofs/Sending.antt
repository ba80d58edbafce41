-- A kit may go to another thread, as its buffer and its routes may.
use denote.RattleType.{RattleType}
use denote.Param.Send.{IsSend, sendable}
use Rattle.std.proofs.Crossing.{crosses}
use Rattle.matchit.proofs.tree.Node.TheLaws.TheKnot.{send-Node}
use Rattle.matchit.specs.contracts.router.Router as router
use Rattle.message_session.proofs.buffer.Buffer.TheSendSync as buffer
use Rattle.wire_routes.specs.contracts.find.Routes as routes
use Rattle.office_session.specs.contracts.kit.SessionKit as kit

router_send : (T : RattleType) → IsSend T → IsSend (router.the_row T)
router_send T sent = search (send-Node, sendable, crosses) depth 40 fits 100000

routes_send : IsSend routes.the_field.row
routes_send = search (router_send, sendable, crosses) depth 40 fits 100000

pub kit_send : IsSend kit.the_field.row
kit_send = search (routes_send, buffer.the_send, sendable, crosses) depth 40 fits 100000
