-- Rows, their cells, and how an arriving row stands to what is kept.
use Rattle.std.specs.Prelude.{Bool, true, false, ◌&&◌, nat_eq, nat_lt, List, ◌≡◌, Option}
use Rattle.std.specs.Prelude.{Some, None, if◌then◌else◌, not, map, filter, slice_get}
use Rattle.std.specs.List.{find, list_any}
use Rattle.slice_method.specs.declared.Amount.{Amount}
use Rattle.slice_method.specs.declared.Amount.TheVariants.{Counts, Value, Withdrawn}
use Rattle.slo_terms.specs.Rows.{current, first_of_each}
use Rattle.cell_index.specs.Cells.{cell_eq}
use Rattle.cell_index.specs.declared.Cell.{Cell}
use Rattle.sample_book.specs.declared.row.Row.{Row}
use Rattle.sample_book.specs.declared.row.RowVerdict.{RowVerdict}
use Rattle.sample_book.specs.declared.row.RowVerdict.TheVariants.{New, Newer, Repeated, Superseded}
use Rattle.sample_book.specs.declared.row.RowVerdict.TheVariants.{Conflict}

-- the cell that a row is about: an indicator, a source and a minute
abbrev pub cell_of : Row → Cell
cell_of row = record { sli = row.sli; source = row.source; minute = row.minute }

-- whether two rows are of one cell
abbrev pub same_cell : Row → Row → Bool
same_cell a b = cell_eq (cell_of a) (cell_of b)

-- The current rows of a list of rows: of each cell the row of the greatest revision, each cell
-- once, in the order in which the cells first came.
abbrev pub current_rows : List Row → List Row
current_rows = current same_cell (λ row. row.revision)

-- the row of a cell, where it has one
abbrev pub row_of_cell : List Row → Cell → Option Row
row_of_cell rows cell = find (λ row. cell_eq cell (cell_of row)) rows

-- the row that is kept of this row's cell
abbrev pub kept_of : List Row → Row → Option Row
kept_of rows row = find (same_cell row) rows

-- whether two amounts are the same
abbrev pub same_amount : Amount → Amount → Bool
same_amount (Counts part total) (Counts part' total') = nat_eq part part' && nat_eq total total'
same_amount (Value value) (Value value') = nat_eq value value'
same_amount Withdrawn Withdrawn = true
same_amount _ _ = false

-- what becomes of a row that arrives where this one is kept: the greater revision counts
abbrev pub verdict_on : Row → Row → RowVerdict
verdict_on kept row =
    if nat_lt kept.revision row.revision then Newer kept
    else if nat_lt row.revision kept.revision then Superseded kept.revision
    else if same_amount kept.amount row.amount then Repeated
    else Conflict kept

-- the same where none may be kept
abbrev pub verdict_where : Option Row → Row → RowVerdict
verdict_where None row = New
verdict_where (Some kept) row = verdict_on kept row

-- what becomes of a row that arrives over these current rows
abbrev pub verdict_of : List Row → Row → RowVerdict
verdict_of rows row = verdict_where (kept_of rows row) row

-- A row may be put where it is newer than the kept one, or where it is new and its cell is the
-- first with room.
abbrev pub MayPutAs : RowVerdict → List Cell → Cell → Type 0
MayPutAs New room cell = slice_get room 0 ≡ Some cell
MayPutAs (Newer kept) room cell = Unit {0}
MayPutAs Repeated room cell = ⊥
MayPutAs (Superseded revision) room cell = ⊥
MayPutAs (Conflict kept) room cell = ⊥

-- the cells of these rows that are none of `cells`, each once, in the order of the rows
abbrev pub new_cells : List Cell → List Row → List Cell
new_cells cells came = map cell_of
    (first_of_each same_cell (filter (λ row. not (list_any (cell_eq (cell_of row)) cells)) came))

-- the cells of these rows that have no current row, each once, in the order of the rows
abbrev pub room_for : List Row → List Row → List Cell
room_for rows came = new_cells (map cell_of rows) came
