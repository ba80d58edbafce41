use Rattle.std.proofs.Common.{◌∙◌, ap, sym}
use Rattle.std.specs.List.{position}
use Rattle.cell_index.specs.Pairs.{pair_eq, pair_of}
use Rattle.cell_index.proofs.PairLemmas.{position-numbers, position-unnamed}
use Rattle.cell_index.proofs.pairs.PairTable.find.Goals as goal

pub returns-in-Some-clause-number : goal.returns-in-Some-clause-number
returns-in-Some-clause-number c =
    c.place_of.ensures
    ∙ position-numbers c.self.inside.slis c.self.inside.sources c.args.cell.now
    c.in-Some.numbers c.self.inside.pairs.keys c.in-Some.ensures.known c.self.invariant.named
    ∙ ap (position (pair_eq (pair_of c.args.cell.now))) c.self.view_is

pub returns-in-None-clause-number : goal.returns-in-None-clause-number
returns-in-None-clause-number c =
    sym (position-unnamed c.self.inside.slis c.self.inside.sources c.args.cell.now
    c.self.inside.pairs.keys c.in-None.ensures.unknown c.self.invariant.named)
    ∙ ap (position (pair_eq (pair_of c.args.cell.now))) c.self.view_is
