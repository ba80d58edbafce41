-- Where the last row stands that passes a test.
use Rattle.std.specs.Prelude.{◌≡◌, ◌<◌, ◌/◌, ◌&&◌, ℕ, Bool, true, false, nat_eq, List, length, map}
use Rattle.std.specs.Prelude.{slice_get, Option, Some, None}
use Rattle.slo_limits.specs.declared.TheConstants.{MINUTES_A_DAY}
use Rattle.cell_index.specs.Chains.{IsIndexed, IsReadyFor, below, last}
use Rattle.cell_index.specs.declared.Cell.{Cell}
use Rattle.cell_index.specs.declared.CellIndex.{CellIndex}
use Rattle.sample_book.specs.Counting.{is_of}
use Rattle.sample_book.specs.Rows.{cell_of}
use Rattle.sample_book.specs.declared.row.Row.{Row}

-- a row is of this indicator, on this day: day d is the minutes from d * 1,440 on
abbrev pub is_on : List ℕ → ℕ → Row → Bool
is_on sli day row = is_of sli row && nat_eq (row.minute / MINUTES_A_DAY) day

-- the last place of a row that passes a test
abbrev pub last_place : (Row → Bool) → List Row → Option ℕ
last_place p rows = below (last p rows)

-- The row at this place passes the test, and none behind it does; or none does.
abbrev pub IsLastPlace : (Row → Bool) → List Row → Option ℕ → Type 0
IsLastPlace p rows None = (place : ℕ) (row : Row) → slice_get rows place ≡ Some row → p row ≡ false
IsLastPlace p rows (Some found) =
    ((row : Row) → slice_get rows found ≡ Some row → p row ≡ true)
    × ((place : ℕ) (row : Row) → found < place → slice_get rows place ≡ Some row → p row ≡ false)
    × (found < length rows)

-- the index is of the cells of the rows, and takes each cell with room
pub record IsInOrder (rows : List Row) (room : List Cell) (index : CellIndex) : Type 0 where
  pub indexed : IsIndexed (map cell_of rows) index
  pub ready : IsReadyFor (length room) index
