use Rattle.std.proofs.Common.{◌∙◌, ◌<◌, ap, length, option_copied, subst, sym}
use Rattle.std.proofs.lemmas.List.{length-map}
use Rattle.cell_index.specs.Pairs.{HaveNames, pair_named}
use Rattle.cell_index.proofs.AlikeLemmas.{all_at}
use Rattle.cell_index.proofs.PairLemmas.{pair-there}
use Rattle.cell_index.proofs.pairs.PairTable.pair.Goals as goal

pub unwrap-requires : goal.unwrap-requires
unwrap-requires c =
    c.get_index.ensures.found.1
    (subst (λ n. c.args.number < n)
    (ap length (sym c.self.view_is)
    ∙ length-map c.self.inside.pairs.keys (pair_named c.self.inside.slis c.self.inside.sources))
    c.requires)

pub named_pair-requires : goal.named_pair-requires
named_pair-requires c =
    all_at (HaveNames (length c.self.inside.slis) (length c.self.inside.sources))
    c.self.inside.pairs.keys c.args.number c.unwrap.result.now c.self.invariant.named
    (sym c.get_index.ensures.key ∙ ap option_copied c.unwrap.ensures)

pub returns : goal.returns
returns c =
    c.named_pair.ensures
    ∙ pair-there c.self.inside.slis c.self.inside.sources c.self.inside.pairs.keys c.args.number
    c.unwrap.result.now c.args.self.now
    (sym c.get_index.ensures.key ∙ ap option_copied c.unwrap.ensures) c.self.view_is
