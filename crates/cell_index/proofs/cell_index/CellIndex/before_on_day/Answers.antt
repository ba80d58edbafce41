use Rattle.std.proofs.Common.{◌∙◌, ◌/◌, arith, ap, sym, map, take}
use Rattle.cell_index.specs.Chains.{day_group, group_eq, last}
use Rattle.cell_index.specs.Cells.{is_cell_on}
use Rattle.cell_index.proofs.ListLemmas.{map-take}
use Rattle.cell_index.proofs.ChainLemmas.{day-test, last-map, linked-length, slice_get-map}
use Rattle.cell_index.proofs.cell_index.CellIndex.before_on_day.Goals as goal

pub before-requires : goal.before-requires
before-requires c = omega (
  arith,
  c.requires.2,
  linked-length c.requires.0 day_group c.args.self.now.days c.requires.1.days,
)

pub returns : goal.returns
returns c cells cell indexed here =
    c.before-2.ensures (map day_group cells) (day_group cell) indexed.days
    (slice_get-map day_group cells c.args.place cell here)
    ∙ ap (last (group_eq (day_group cell))) (sym (map-take day_group c.args.place cells))
    ∙ last-map day_group (group_eq (day_group cell)) (is_cell_on cell.sli (cell.minute / 1440))
    (day-test cell.sli (cell.minute / 1440)) (take c.args.place cells)
