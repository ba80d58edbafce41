use Rattle.std.proofs.Common.{◌≡◌, ◌∙◌, ap, sym, Some, ℕ}
use Rattle.std.specs.Option.{option_map}
use Rattle.std.proofs.lemmas.Option.{slice_get-map}
use Rattle.indexmap.proofs.CallerLemmas.{updates-with_value_at}
use Rattle.cell_index.specs.Chains.{link_of}
use Rattle.cell_index.specs.declared.chains.Group.{Group}
use Rattle.cell_index.proofs.ChainLemmas.{group_laws, some_same}
use Rattle.cell_index.proofs.chains.exchange.Goals as goal

pub returns-then-is_at-clause-after : goal.returns-then-is_at-clause-after
returns-then-is_at-clause-after c =
    let there = c.is_at.ensures.there c.if-is_at.true in
    (updates-with_value_at c.args.lasts.now c.args.guess c.args.link group_laws
    c.is_at.ensures.unique c.args.group there.0 there.1).0

pub returns-then-is_at-clause-before : goal.returns-then-is_at-clause-before
returns-then-is_at-clause-before c =
    let there = c.is_at.ensures.there c.if-is_at.true in
    let read : Some c.index-before.result.now ≡ Some there.0 =
    sym c.index-before.ensures
    ∙ slice_get-map (λ (e : Group × ℕ). e.1) c.args.lasts.now.entries c.args.guess
    ∙ ap (option_map (λ (e : Group × ℕ). e.1)) there.1 in
    some_same read ∙ sym (ap link_of there.2)
