use Rattle.std.proofs.Common.{◌∙◌, map}
use Rattle.cell_index.specs.Chains.{group_eq, sli_group}
use Rattle.cell_index.specs.Cells.{is_cell_of}
use Rattle.cell_index.proofs.ChainLemmas.{last-map, sli-test}
use Rattle.cell_index.proofs.cell_index.CellIndex.last_of.Goals as goal

pub returns : goal.returns
returns c cells indexed =
    c.last.ensures (map sli_group cells) indexed.slis
    ∙ last-map sli_group (group_eq (record { name = c.args.sli; day = 0 })) (is_cell_of c.args.sli)
    (sli-test c.args.sli) cells
