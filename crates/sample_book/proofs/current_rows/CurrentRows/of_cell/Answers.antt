use Rattle.std.proofs.Common.{◌≡◌, ◌∙◌, ap, sym, subst, Some, take, false}
use Rattle.std.specs.List.{list_any}
use Rattle.cell_index.specs.declared.Cell.{Cell}
use Rattle.cell_index.specs.Cells.{cell_eq}
use Rattle.slice_method.specs.declared.Amount.TheVariants.{Withdrawn}
use Rattle.sample_book.specs.declared.row.Row.{Row}
use Rattle.sample_book.specs.Rows.{row_of_cell}
use Rattle.sample_book.specs.Standing.{Standing, row_stored, rows_stored}
use Rattle.name_numbers.proofs.FirstPlaces.{position-first}
use Rattle.sample_book.proofs.StandingLemmas.{row_at, kept_at, none_kept, none_found}
use Rattle.sample_book.proofs.current_rows.CurrentRows.of_cell.Goals as goal

-- some row of a cell
abbrev row_there : Cell → Row
row_there cell = record {
  sli = cell.sli;
  source = cell.source;
  minute = cell.minute;
  revision = 0;
  amount = Withdrawn;
}

pub returns-in-Some : goal.returns-in-Some
returns-in-Some c =
    let cells = c.self.inside.cells in
    let stored = c.self.inside.stored.rows in
    let cell = c.args.cell.now in
    let kept = row_at cells stored c.in-Some.place c.at.result c.at-in-Some.result c.at.ensures
    c.at-in-Some.ensures in
    ap Some c.row_stored.ensures
    ∙ sym (kept_at cells stored (row_there cell) (row_stored c.at.result c.at-in-Some.result)
    c.in-Some.place
    (sym (position-first (cell_eq cell) cells) ∙ c.in-Some.ensures.there) kept)
    ∙ ap (λ (s : Standing). row_of_cell s.rows cell) c.self.view_is

pub returns-in-None : goal.returns-in-None
returns-in-None c =
    let cells = c.self.inside.cells in
    let stored = c.self.inside.stored.rows in
    let cell = c.args.cell.now in
    let absent = subst (λ n. list_any (cell_eq cell) (take n cells) ≡ false)
    c.len.ensures c.in-None.ensures.absent in
    sym (none_found (row_there cell) (rows_stored cells stored)
    (none_kept cells stored (row_there cell) absent))
    ∙ ap (λ (s : Standing). row_of_cell s.rows cell) c.self.view_is
