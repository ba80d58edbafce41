-- Where the cells of each indicator begin, and on how many days it has some.
use Rattle.std.specs.Prelude.{◌≡◌, ℕ, List, length, Option}
use Rattle.std.specs.List.{position}
use Rattle.std.specs.Option.{option_map}
use Rattle.std.specs.Str.{bytes_eq}
use Rattle.indexmap.specs.IndexMap.{get}
use Rattle.cell_index.specs.Cells.{days_with_cells, is_cell_of}
use Rattle.cell_index.specs.declared.extents.Extent.{Extent}
use Rattle.cell_index.specs.declared.extents.Extents.{Extents}
use Rattle.cell_index.specs.declared.cell.Cell.{Cell}

-- the place of the first cell of an indicator, and the number of its days, where it has cells
abbrev pub extent_of : List Cell → List ℕ → Option Extent
extent_of cells sli = option_map (λ place. record {
  first = place;
  days = length (days_with_cells cells sli);
}) (position (is_cell_of sli) cells)

-- that is known of each indicator
pub record AreExtents (cells : List Cell) (extents : Extents) : Type 0 where
  pub known : (sli : List ℕ) → get bytes_eq extents.known sli ≡ extent_of cells sli
