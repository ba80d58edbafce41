use Rattle.std.proofs.Common.{◌∙◌, ap, sym}
use Rattle.std.specs.List.{position}
use Rattle.cell_index.specs.Cells.{cell_eq}
use Rattle.cell_index.proofs.CellLemmas.{position-named, position-absent}
use Rattle.cell_index.proofs.cells.Cells.find.Goals as goal

pub returns-in-Some : goal.returns-in-Some
returns-in-Some c =
    c.find.ensures
    ∙ position-named c.self.inside.pairs c.args.cell.now c.in-Some.key c.self.inside.keys
    c.in-Some.ensures.known c.self.invariant.named
    ∙ ap (position (cell_eq c.args.cell.now)) c.self.view_is

pub returns-in-None : goal.returns-in-None
returns-in-None c =
    sym (position-absent c.self.inside.pairs c.args.cell.now c.self.inside.keys
    c.in-None.ensures.unknown c.self.invariant.named)
    ∙ ap (position (cell_eq c.args.cell.now)) c.self.view_is
