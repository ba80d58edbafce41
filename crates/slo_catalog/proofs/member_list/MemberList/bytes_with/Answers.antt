use Rattle.std.proofs.Common.{sym, ap, ◌∙◌, arith}
use Rattle.catalog_terms.specs.Limits.{total_weight}
use Rattle.slo_catalog.proofs.WeightLemmas.{room_for_one}
use Rattle.slo_catalog.proofs.member_list.MemberList.bytes_with.Goals as goal

pub overflow_add-result : goal.overflow_add-result
overflow_add-result c =
    let below = room_for_one c.args.self.now c.count.result c.self.inside.bytes c.weight.result
    c.count.type_inv (sym c.count.ensures) (c.self.invariant ∙ ap total_weight c.self.view_is)
    c.weight.ensures.few in
    omega (arith, below)
