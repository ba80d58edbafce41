use Rattle.std.proofs.Common.{◌≡◌, ◌∙◌, ap, sym, subst, Some}
use Rattle.indexmap.specs.IndexMap.{get}
use Rattle.cell_index.specs.Chains.{group_eq}
use Rattle.cell_index.specs.declared.chains.Group.{Group}
use Rattle.cell_index.proofs.ChainLemmas.{group_same}
use Rattle.cell_index.proofs.chains.is_at.Goals as goal

pub returns-in-Some-clause-there : goal.returns-in-Some-clause-there
returns-in-Some-clause-there c told =
    let link = c.in-Some.field-0-1.now in
    let same : c.in-Some.there.now ≡ c.args.group.now =
    group_same c.in-Some.there.now c.args.group.now (sym c.eq.ensures ∙ told) in (
      link,
      sym c.in-Some.ensures.entry ∙ ap (λ (g : Group). Some (g, link)) same,
      subst (λ (g : Group). get group_eq c.args.lasts.now g ≡ Some link) same
          c.in-Some.ensures.value,
    )
