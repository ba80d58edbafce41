use Rattle.std.proofs.Common.{◌∙◌, Some, ap, sym}
use Rattle.cell_index.proofs.AlikeLemmas.{place_there}
use Rattle.cell_index.proofs.PairLemmas.{numbers_laws, numbers_same}
use Rattle.cell_index.proofs.pairs.is_at.Goals as goal

pub returns-in-Some : goal.returns-in-Some
returns-in-Some c told =
    place_there numbers_laws c.args.pairs.now.keys c.args.numbers.now c.args.guess
    c.len.ensures.unique
    (sym c.in-Some.ensures.key
    ∙ ap Some (numbers_same c.in-Some.there.now c.args.numbers.now (sym c.eq.ensures ∙ told)))
