use Rattle.std.proofs.Common.{◌≡◌, ◌∙◌, ◌++◌, ◌∷◌, [], ℕ, arith, ap, sym, length}
use Rattle.indexmap.specs.IndexMap.{get}
use Rattle.cell_index.specs.Chains.{group_eq, last}
use Rattle.cell_index.proofs.ChainLemmas.{lasts-push, length-links, links-push}
use Rattle.cell_index.proofs.chains.Chains.push.Goals as goal

pub returns-clause-linked : goal.returns-clause-linked
returns-clause-linked c groups linked =
    let before = c.args.self.now.links.items in
    let whole : c.len-place.result ≡ length groups = omega (
      arith,
      c.len-place.ensures,
      c.args.self.now.links.ok.0,
      ap length linked.links,
      length-links [] groups,
    ) in
    record {
      lasts = λ group. lasts-push groups c.args.group group c.len-place.result (get group_eq
          c.args.self.now.lasts group) (get group_eq c.exchange-latest.new.lasts group) whole
          (linked.lasts group) (c.exchange-latest.ensures.after group);
      links =
          (rw c.unwrap.ensures at c.extend_from_slice.ensures.items)
          ∙ ap (λ (link : ℕ). before ++ link ∷ [])
          (c.exchange-latest.ensures.before ∙ linked.lasts c.args.group)
          ∙ ap (λ links. links ++ last (group_eq c.args.group) groups ∷ []) linked.links
          ∙ sym (links-push [] groups c.args.group);
    }
