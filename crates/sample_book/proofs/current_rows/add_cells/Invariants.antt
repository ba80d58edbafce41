use Rattle.std.proofs.Common.{◌≡◌, ◌++◌, take}
use Rattle.sample_book.specs.Rows.{new_cells}
use Rattle.sample_book.proofs.current_rows.add_cells.Given as goal

-- the cells of the rows so far have been added
abbrev pub invariant-loop-row : goal.invariant-loop-row
invariant-loop-row l = l.cells ≡ l.fn.cells ++ new_cells l.fn.cells (take l.row-index l.rows)
