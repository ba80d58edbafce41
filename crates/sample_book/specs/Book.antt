-- What a book of samples holds.
use Rattle.std.specs.Prelude.{ℕ, Bool, List}
use Rattle.cell_index.specs.declared.Cell.{Cell}
use Rattle.sample_book.specs.declared.row.Row.{Row}
use Rattle.sample_book.specs.declared.exclusions.Exclusion.{Exclusion}

-- the current rows in the order in which their cells first came, the exclusions in the order in
-- which they were made, each with whether it is live, the cells that have room for a row, and the
-- room for exclusions
pub record Book : Type 0 where
  pub rows : List Row
  pub exclusions : List (Exclusion × Bool)
  pub room : List Cell
  pub spare : ℕ
