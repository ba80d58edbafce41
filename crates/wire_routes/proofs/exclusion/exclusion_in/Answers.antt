use Rattle.std.proofs.Common.{sym, ◌∙◌}
use Rattle.serde_json.specs.View.{view}
use Rattle.wire_routes.proofs.MemberLemmas.{not_three, all_three}
use Rattle.wire_routes.proofs.exclusion.exclusion_in.Goals as goal

pub returns-then-len-ne3 : goal.returns-then-len-ne3
returns-then-len-ne3 c =
    not_three c.args.id (view c.args.value.now) c.in_ok-members.members.now.entries
    c.in_ok-members.ensures (λ e. c.if-len-ne3.true (c.len.ensures.len ∙ e))

pub returns : goal.returns
returns c =
    all_three c.args.id (view c.args.value.now) c.in_ok-members.members.now.entries
    c.in_ok-members.ensures (sym c.len.ensures.len ∙ c.if-len-ne3.false)
    c.in_ok-from.from c.in_ok-slo.slo c.in_ok-to.to c.in_ok-from.ensures c.in_ok-slo.ensures
    c.in_ok-to.ensures
