use Rattle.std.proofs.Common.{◌≡◌, ◌∙◌, [], Some, ap, sym, refl, length, slice_get}
use Rattle.std.proofs.lemmas.Option.{slice_get_read}
use Rattle.cell_index.proofs.ChainLemmas.{links-at, some_same}
use Rattle.cell_index.proofs.chains.Chains.before.Goals as goal

pub returns : goal.returns
returns c groups group linked here =
    let links = c.args.self.now.links.items in
    let read : slice_get links c.args.place ≡ Some c.index.result.now = slice_get_read links
    (length links) c.args.place c.index.result.now refl c.requires c.index.ensures in
    some_same (sym read ∙ ap (λ links. slice_get links c.args.place) linked.links
    ∙ links-at [] groups c.args.place group here)
