use Rattle.std.proofs.Common.{◌≡◌, ◌≢◌, ◌∙◌, ap, sym, subst, refl, length, take, drop, Some, false}
use Rattle.std.specs.List.{IsDistinct, list_any, position}
use Rattle.std.proofs.lemmas.List.{drop-drop}
use Rattle.cell_index.specs.Cells.{cell_eq}
use Rattle.cell_index.specs.declared.Cell.{Cell}
use Rattle.sample_book.specs.History.{MayComeAs, room_after, rows_after}
use Rattle.sample_book.specs.Rows.{cell_of, same_cell, verdict_of}
use Rattle.sample_book.specs.Standing.{Standing}
use Rattle.sample_book.specs.declared.row.RowVerdict.{RowVerdict}
use Rattle.sample_book.specs.declared.row.RowVerdict.TheVariants.{New}
use Rattle.sample_book.proofs.ArriveLemmas.{arrive_placed, new_there, room_kept}
use Rattle.sample_book.proofs.current_rows.CurrentRows.take.Goals as goal
use Rattle.sample_book.proofs.current_rows.CurrentRows.take.Goals.{In-None}

pub renew-requires-clause-there : goal.renew-requires-clause-there
renew-requires-clause-there c =
    subst (λ (cell : Cell). position (cell_eq cell) c.self.inside.cells ≡ Some c.in-Some.place)
    c.cell.ensures c.in-Some.ensures.there

pub returns-in-Some-clause-rows : goal.returns-in-Some-clause-rows
returns-in-Some-clause-rows c = c.renew.ensures.rows
    ∙ ap (λ (s : Standing). rows_after s.rows c.args.row.now) c.self.view_is

pub returns-in-Some-clause-placed : goal.returns-in-Some-clause-placed
returns-in-Some-clause-placed c =
    arrive_placed c.args.self.now.rows _ c.args.row.now _
    (subst (λ (s : Standing). IsDistinct same_cell s.rows) c.self.view_is c.self.invariant.apart)
    refl (returns-in-Some-clause-rows c)

pub returns-in-Some-clause-room : goal.returns-in-Some-clause-room
returns-in-Some-clause-room c =
    ap (λ n. drop n c.self.inside.cells) c.renew.ensures.count
    ∙ ap (λ (s : Standing). s.room) c.self.view_is
    ∙ room_kept (verdict_of c.args.self.now.rows c.args.row.now) c.args.self.now.room
    (subst (λ (s : Standing). verdict_of s.rows c.args.row.now ≢ New) c.self.view_is
    c.renew.ensures.known)

-- the row's cell is none of those with rows
absent : (c : In-None) → list_any (cell_eq (cell_of c.args.row.now))
    (take (length c.self.inside.stored.rows) c.self.inside.cells) ≡ false
absent c =
    let cells = c.self.inside.cells in
    subst (λ n. list_any (cell_eq (cell_of c.args.row.now)) (take n cells) ≡ false) c.len.ensures
    (subst (λ (cell : Cell). list_any (cell_eq cell) (take c.len.result cells) ≡ false)
    c.cell.ensures c.in-None.ensures.absent)

pub append-requires-clause-absent : goal.append-requires-clause-absent
append-requires-clause-absent c = absent (goal.at.append-requires-clause-absent c).In-None

pub append-requires-clause-first : goal.append-requires-clause-first
append-requires-clause-first c =
    let cells = c.self.inside.cells in
    let stored = c.self.inside.stored.rows in
    let row = c.args.row.now in
    subst (λ (v : RowVerdict). MayComeAs v (drop (length stored) cells) (cell_of row))
    (new_there cells stored row (absent (goal.at.append-requires-clause-first c).In-None))
    (subst (λ (s : Standing). MayComeAs (verdict_of s.rows row) s.room (cell_of row))
    (sym c.self.view_is) c.requires) refl

pub returns-in-None-clause-rows : goal.returns-in-None-clause-rows
returns-in-None-clause-rows c = c.append.ensures.rows
    ∙ ap (λ (s : Standing). rows_after s.rows c.args.row.now) c.self.view_is

pub returns-in-None-clause-placed : goal.returns-in-None-clause-placed
returns-in-None-clause-placed c =
    arrive_placed c.args.self.now.rows _ c.args.row.now _
    (subst (λ (s : Standing). IsDistinct same_cell s.rows) c.self.view_is c.self.invariant.apart)
    refl (returns-in-None-clause-rows c)

pub returns-in-None-clause-room : goal.returns-in-None-clause-room
returns-in-None-clause-room c =
    let cells = c.self.inside.cells in
    let filled = length c.self.inside.stored.rows in
    ap (λ n. drop n cells) c.append.ensures.count
    ∙ sym (drop-drop 1 filled cells)
    ∙ ap (λ (v : RowVerdict). room_after v (drop filled cells)) (sym c.append.ensures.new)
    ∙ ap (λ (s : Standing). room_after (verdict_of s.rows c.args.row.now) s.room) c.self.view_is
