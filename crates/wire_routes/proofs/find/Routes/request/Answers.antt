use Rattle.std.proofs.Common.{option_map, slice_range}
use Rattle.wire_routes.proofs.RangeLemmas.{heard_body, told}
use Rattle.wire_routes.proofs.find.Routes.request.Goals as goal

pub returns-clause-range : goal.returns-clause-range
returns-clause-range c =
    let (n, heard) = c.requires in
    told c.in-Some.place c.method_of.result (option_map (λ q. q.now) c.target_of.result.1)
    (slice_range c.args.bytes.now c.args.message.now.body.0 c.args.message.now.body.1)
    c.answer_at.result
    (heard_body c.args.bytes.now c.args.message.now n heard) c.answer_at.ensures
