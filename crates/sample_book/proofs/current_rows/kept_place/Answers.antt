use Rattle.std.proofs.Common.{◌∙◌, sym}
use Rattle.cell_index.specs.Cells.{cell_eq}
use Rattle.name_numbers.proofs.FirstPlaces.{always_none, position-first, none-first, none-take}
use Rattle.name_numbers.proofs.FirstPlaces.{first-take}
use Rattle.sample_book.proofs.current_rows.kept_place.Goals as goal

pub returns-in_err-place-clause-absent : goal.returns-in_err-place-clause-absent
returns-in_err-place-clause-absent c =
    let p = cell_eq c.args.cell.now in
    always_none c.from_residual.result
    (none-take p c.args.cells.now c.args.filled (none-first p c.args.cells.now
    (sym (position-first p c.args.cells.now) ∙ sym c.in_err-place.ensures)))

pub returns-else-place-filled-clause-absent : goal.returns-else-place-filled-clause-absent
returns-else-place-filled-clause-absent c =
    let p = cell_eq c.args.cell.now in
    first-take p c.args.cells.now c.args.filled c.in_ok-place.place (sym
    (position-first p c.args.cells.now) ∙ sym c.in_ok-place.ensures) c.if-place-filled.false
