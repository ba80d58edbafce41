use Rattle.std.proofs.Common.{◌∙◌, ◌++◌, ◌∷◌, [], ap, sym, take}
use Rattle.std.proofs.lemmas.List.{take_more}
use Rattle.sample_book.specs.declared.row.Row.{Row}
use Rattle.sample_book.specs.Rows.{new_cells}
use Rattle.cell_index.specs.Cells.{with_cell}
use Rattle.cell_index.proofs.CellLemmas.{never_ok}
use Rattle.sample_book.proofs.StandingLemmas.{new_cells-step}
use Rattle.sample_book.proofs.current_rows.add_cells.Goals as goal

pub loop-row-preserved : goal.loop-row-preserved
loop-row-preserved c =
    let rows = c.args.rows.now in
    let n = c.loop-row.row-index in
    let more = take_more rows n c.row-item.result c.loop-row-test.true
    ∙ ap (λ (r : Row). take n rows ++ r ∷ []) (sym c.row-item.is) in
    new_cells-step c.args.cells.now c.loop-row.cells c.add_new.new.self (take n rows)
    c.row-item.result c.loop-row.invariant
    (c.in_ok-add_new.ensures.ok ∙ ap (with_cell c.loop-row.cells) c.cell.ensures)
    ∙ ap (λ came. c.args.cells.now ++ new_cells c.args.cells.now came) (sym more)

pub returns-in_err-add_new-clause-ok : goal.returns-in_err-add_new-clause-ok
returns-in_err-add_new-clause-ok c = never_ok _ _ c.from_residual.result c.from_residual.ensures.1
