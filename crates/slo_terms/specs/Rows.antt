-- Rows that come late, repeated and corrected, and which of them count.
use Rattle.std.specs.Prelude.{ℕ, Bool, List, [], ◌∷◌, filter, map, fold, not, nat_lt, if◌then◌else◌}

-- of two rows of a cell the one of the greater revision; the earlier one where they are equal
abbrev pub newer : {A : Type 0} → (A → ℕ) → A → A → A
newer revision_of kept row = if nat_lt (revision_of kept) (revision_of row) then row else kept

-- of all rows of this row's cell the one of the greatest revision
abbrev pub newest : {A : Type 0} → (A → A → Bool) → (A → ℕ) → List A → A → A
newest same_cell revision_of rows row = fold (newer revision_of) row (filter (same_cell row) rows)

-- the first row of each cell, in the order in which they came
abbrev pub first_of_each : {A : Type 0} → (A → A → Bool) → List A → List A
first_of_each same_cell [] = []
first_of_each same_cell (row ∷ rows) =
    row ∷ filter (λ later. not (same_cell row later)) (first_of_each same_cell rows)

-- The current rows of a list of rows: of each cell the row of the greatest revision, each cell
-- once, in the order in which the cells first came.
abbrev pub current : {A : Type 0} → (A → A → Bool) → (A → ℕ) → List A → List A
current same_cell revision_of rows =
    map (newest same_cell revision_of rows) (first_of_each same_cell rows)
