use Rattle.std.proofs.Common.{◌∙◌, ap, sym, Some, length, slice_get}
use Rattle.cell_index.specs.Keys.{IsNamed, cell_named}
use Rattle.cell_index.proofs.AlikeLemmas.{all_at}
use Rattle.cell_index.proofs.ChainLemmas.{slice_get-map}
use Rattle.cell_index.proofs.cells.Cells.at.Goals as goal

pub named_cell-requires : goal.named_cell-requires
named_cell-requires c = all_at (IsNamed (length c.self.inside.pairs)) c.self.inside.keys
    c.args.place c.at-key.result c.self.invariant.named c.at-key.ensures

pub returns : goal.returns
returns c =
    ap (λ cells. slice_get cells c.args.place) (sym c.self.view_is)
    ∙ slice_get-map (cell_named c.self.inside.pairs) c.self.inside.keys c.args.place
    c.at-key.result c.at-key.ensures
    ∙ ap Some (sym c.named_cell.ensures)
