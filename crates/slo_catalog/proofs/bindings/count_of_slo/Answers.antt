use Rattle.std.proofs.Common.{◌≡◌, ◌*◌, ◌∙◌, List, ℕ, ap, filter, length, sym}
use Rattle.catalog_terms.specs.Bindings.{has_condition}
use Rattle.catalog_terms.specs.References.{names_in}
use Rattle.slo_catalog.proofs.CountLemmas.{bound_length}
use Rattle.slo_catalog.proofs.bindings.count_of_slo.Goals as goal

pub returns : goal.returns
returns c name =
    let policies = filter (has_condition c.args.members.now)
    (names_in c.args.slo.now.alert_policies) in
    let counted : c.count_with_condition-policies.result ≡ length policies =
    c.count_with_condition-policies.ensures
    ∙ ap (λ (ns : List (List ℕ)). length (filter (has_condition c.args.members.now) ns))
    c.names_in.ensures in
    (λ i. length (c.objectives_of.ensures.all i) * counted i)
    ∙ sym (bound_length name policies 0 c.args.slo.now.objectives)
