-- The days of an indicator: those that are there, and those that rows bring.
use Rattle.std.specs.Prelude.{◌≡◌, ℕ, ◌≤◌, ◌&&◌, Bool, true, false, not, List, length}
use Rattle.std.specs.List.{list_any}
use Rattle.slo_terms.specs.Sums.{sum_over}
use Rattle.cell_index.specs.Cells.{is_cell_on}
use Rattle.cell_index.specs.Chains.{IsIndexed}
use Rattle.cell_index.specs.declared.Cell.{Cell}
use Rattle.cell_index.specs.declared.CellIndex.{CellIndex}
use Rattle.sample_book.specs.declared.Row.{Row}
use Rattle.sample_book.specs.LastRows.{is_on}

-- one of the rows is of the indicator, on that day
abbrev pub has_day : List ℕ → List Row → ℕ → Bool
has_day sli rows day = list_any (is_on sli day) rows

abbrev pub one_if : Bool → ℕ
one_if true = 1
one_if false = 0

-- how many of so many days from one on pass a test
abbrev pub days_passing : (ℕ → Bool) → ℕ → ℕ → ℕ
days_passing test first count = sum_over (λ day. one_if (test day)) first count

-- Rows that come bring days: the index is of cells of those days of each indicator that have one of
-- them, and none of the rows that were there.
pub record BringDays (rows more : List Row) (index : CellIndex) : Type 0 where
  pub cells : List Cell
  pub indexed : IsIndexed cells index
  pub few : length cells ≤ length more
  pub days : (sli : List ℕ) (day : ℕ)
      → list_any (is_cell_on sli day) cells ≡ (has_day sli more day && not (has_day sli rows day))
