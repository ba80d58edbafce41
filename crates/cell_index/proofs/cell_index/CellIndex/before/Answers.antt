use Rattle.std.proofs.Common.{◌∙◌, arith, ap, sym, map, take}
use Rattle.cell_index.specs.Chains.{group_eq, last, sli_group}
use Rattle.cell_index.specs.Cells.{is_cell_of}
use Rattle.cell_index.proofs.ListLemmas.{map-take}
use Rattle.cell_index.proofs.ChainLemmas.{last-map, linked-length, sli-test, slice_get-map}
use Rattle.cell_index.proofs.cell_index.CellIndex.before.Goals as goal

pub before-requires : goal.before-requires
before-requires c = omega (
  arith,
  c.requires.2,
  linked-length c.requires.0 sli_group c.args.self.now.slis c.requires.1.slis,
)

pub returns : goal.returns
returns c cells cell indexed here =
    c.before-2.ensures (map sli_group cells) (sli_group cell) indexed.slis
    (slice_get-map sli_group cells c.args.place cell here)
    ∙ ap (last (group_eq (sli_group cell))) (sym (map-take sli_group c.args.place cells))
    ∙ last-map sli_group (group_eq (sli_group cell)) (is_cell_of cell.sli) (sli-test cell.sli)
    (take c.args.place cells)
