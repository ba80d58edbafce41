use Rattle.std.proofs.Common.{◌∙◌, map}
use Rattle.cell_index.specs.Chains.{day_group, group_eq}
use Rattle.cell_index.specs.Cells.{is_cell_on}
use Rattle.cell_index.proofs.ChainLemmas.{day-test, last-map}
use Rattle.cell_index.proofs.cell_index.CellIndex.last_on_day.Goals as goal

pub returns : goal.returns
returns c cells indexed =
    c.last.ensures (map day_group cells) indexed.days
    ∙ last-map day_group (group_eq (record { name = c.args.sli; day = c.args.day }))
    (is_cell_on c.args.sli c.args.day) (day-test c.args.sli c.args.day) cells
