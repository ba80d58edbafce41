-- Current rows, and the cells that have room for a row.
use Rattle.std.specs.Prelude.{ℕ, ◌≤◌, List, length, map, drop, zip}
use Rattle.std.specs.List.{IsDistinct}
use Rattle.cell_index.specs.declared.Cell.{Cell}
use Rattle.sample_book.specs.declared.row.Row.{Row}
use Rattle.sample_book.specs.declared.stored.Stored.{Stored}
use Rattle.sample_book.specs.Rows.{same_cell}

-- current rows, and the cells that have room
pub record Standing : Type 0 where
  pub rows : List Row
  pub room : List Cell

-- the row of a cell, with what is stored for it
abbrev pub row_stored : Cell → Stored → Row
row_stored cell stored = record {
  sli = cell.sli;
  source = cell.source;
  minute = cell.minute;
  revision = stored.revision;
  amount = stored.amount;
}

-- the rows of cells, with what is stored for each
abbrev pub rows_stored : List Cell → List Stored → List Row
rows_stored cells stored = map (λ place. row_stored place.0 place.1) (zip cells stored)

-- The first cells have rows, the cells behind them have room.
abbrev pub standing_of : List Cell → List Stored → Standing
standing_of cells stored = record {
  rows = rows_stored cells stored;
  room = drop (length stored) cells;
}

-- A place in the list is a `u32`.
abbrev pub MOST_CELLS : ℕ
MOST_CELLS = 4294967295

-- each cell that has room can get its row without memory, and no cell has two rows
pub record IsInStep (cells : List Cell) (stored : List Stored) (capacity : ℕ) : Type 0 where
  pub within : length stored ≤ length cells
  pub ready : length cells ≤ capacity
  pub few : length cells ≤ MOST_CELLS
  pub apart : IsDistinct same_cell (rows_stored cells stored)
