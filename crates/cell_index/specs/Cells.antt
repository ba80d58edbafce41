-- Cells: what each is of, and whether it is there.
use Rattle.std.specs.Prelude.{◌/◌, ◌==◌, ◌&&◌, ◌++◌, ◌∷◌, [], ℕ, Bool, nat_eq, List, map, filter}
use Rattle.std.specs.Prelude.{if◌then◌else◌}
use Rattle.std.specs.List.{list_any}
use Rattle.std.specs.Str.{bytes_eq}
use Rattle.slo_limits.specs.declared.TheConstants.{MINUTES_A_DAY}
use Rattle.slo_terms.specs.Rows.{first_of_each}
use Rattle.cell_index.specs.declared.cell.Cell.{Cell}

-- whether two cells are one
abbrev pub cell_eq : Cell → Cell → Bool
cell_eq a b = bytes_eq a.sli b.sli && (bytes_eq a.source b.source && nat_eq a.minute b.minute)

-- the cells with this one behind them, unless it is there
abbrev pub with_cell : List Cell → Cell → List Cell
with_cell cells cell = if list_any (cell_eq cell) cells then cells else cells ++ cell ∷ []

-- whether a cell is of this indicator
abbrev pub is_cell_of : List ℕ → Cell → Bool
is_cell_of sli cell = bytes_eq cell.sli sli

-- a cell is of this indicator, on this day: day d is the minutes from d * 1,440 on
abbrev pub is_cell_on : List ℕ → ℕ → Cell → Bool
is_cell_on sli day cell = is_cell_of sli cell && nat_eq (cell.minute / MINUTES_A_DAY) day

-- the days that have a cell of an indicator, each once: day d is the minutes from d * 1,440 on
abbrev pub days_with_cells : List Cell → List ℕ → List ℕ
days_with_cells cells sli =
    first_of_each (λ a b. a == b)
    (map (λ (cell : Cell). cell.minute / MINUTES_A_DAY) (filter (is_cell_of sli) cells))
