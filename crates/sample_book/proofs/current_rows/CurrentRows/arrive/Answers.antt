use Rattle.std.proofs.Common.{◌≡◌, ◌∙◌, ◌++◌, ◌∷◌, [], List, ap, sym, subst, length, take, Some}
use Rattle.std.proofs.Common.{None, is_some, slice_get}
use Rattle.std.specs.List.{IsDistinct, list_any, position}
use Rattle.cell_index.specs.declared.Cell.{Cell}
use Rattle.sample_book.specs.declared.row.Row.{Row}
use Rattle.sample_book.specs.History.{rows_after}
use Rattle.cell_index.specs.Cells.{cell_eq}
use Rattle.sample_book.specs.Rows.{cell_of, same_cell, verdict_of}
use Rattle.sample_book.specs.Standing.{Standing}
use Rattle.sample_book.proofs.ArriveLemmas.{arrive_placed, cell_added, cell_there, made_absent}
use Rattle.sample_book.proofs.ArriveLemmas.{made_none, made_one}
use Rattle.cell_index.proofs.CellLemmas.{always_err}
use Rattle.name_numbers.proofs.FirstPlaces.{any-position}
use Rattle.sample_book.proofs.StandingLemmas.{RoomMade}
use Rattle.sample_book.proofs.current_rows.CurrentRows.arrive.Goals as goal
use Rattle.sample_book.proofs.current_rows.CurrentRows.arrive.Goals.{After-reserve, In-Err}
use Rattle.sample_book.proofs.current_rows.CurrentRows.arrive.Goals.{In-Ok-None, In-Ok-Some}

-- want of memory for the row: the cells without rows are forgotten
unreserved : (c : After-reserve) → RoomMade c.self.inside.cells c.self.inside.stored.rows
    c.release.new.cells c.reserve.new.stored.rows c.reserve.new.stored.capacity []
unreserved c = made_none c.self.inside.cells c.self.inside.stored.rows c.self.inside.stored.capacity
    c.release.new.cells c.reserve.new.stored.rows c.reserve.new.stored.capacity c.self.invariant
    (c.release.ensures ∙ ap (λ n. take n c.self.inside.cells)
    c.len.ensures)
    c.reserve.ensures.rows c.reserve.ensures.capacity

-- want of memory for the cell: the same
unadded : (c : In-Err) → RoomMade c.self.inside.cells c.self.inside.stored.rows
    c.add_new.new.self c.reserve.new.stored.rows c.reserve.new.stored.capacity []
unadded c = made_none c.self.inside.cells c.self.inside.stored.rows c.self.inside.stored.capacity
    c.add_new.new.self c.reserve.new.stored.rows c.reserve.new.stored.capacity c.self.invariant
    (c.in-Err.ensures.err ∙ (c.release.ensures ∙ ap (λ n. take n c.self.inside.cells)
    c.len.ensures))
    c.reserve.ensures.rows c.reserve.ensures.capacity

-- the cell has a row at the place that was found
found : (c : In-Ok-Some)
    → Some c.in-Ok-Some.place ≡ position (cell_eq c.cell.result) c.release.new.cells
found c = (cc (c.in-Ok-Some.ensures.place, c.in-Ok-Some.field-0-is))

-- and no cell has room
there : (c : In-Ok-Some) → RoomMade c.self.inside.cells c.self.inside.stored.rows
    c.add_new.new.self c.reserve.new.stored.rows c.reserve.new.stored.capacity []
there c = made_none c.self.inside.cells c.self.inside.stored.rows c.self.inside.stored.capacity
    c.add_new.new.self c.reserve.new.stored.rows c.reserve.new.stored.capacity c.self.invariant
    (cell_there c.release.new.cells c.add_new.new.self c.cell.result c.in-Ok-Some.place
    c.in-Ok-Some.ensures.ok (found c) ∙ (c.release.ensures
    ∙ ap (λ n. take n c.self.inside.cells) c.len.ensures))
    c.reserve.ensures.rows c.reserve.ensures.capacity

-- the cell has no row
unfound : (c : In-Ok-None) → None ≡ position (cell_eq c.cell.result) c.release.new.cells
unfound c = (cc (c.in-Ok-None.ensures.place, c.in-Ok-None.field-0-is))

-- and comes behind those that have one
behind : (c : In-Ok-None) → c.add_new.new.self
    ≡ take (length c.self.inside.stored.rows) c.self.inside.cells ++ cell_of c.args.row.now ∷ []
behind c =
    cell_added c.release.new.cells c.add_new.new.self c.cell.result c.in-Ok-None.ensures.ok
    (unfound c)
    ∙ ap (λ (cs : List Cell). cs ++ c.cell.result ∷ []) (c.release.ensures
    ∙ ap (λ n. take n c.self.inside.cells) c.len.ensures)
    ∙ ap (λ (cell : Cell). take (length c.self.inside.stored.rows) c.self.inside.cells
    ++ cell ∷ []) c.cell.ensures

-- alone with room
added : (c : In-Ok-None) → RoomMade c.self.inside.cells c.self.inside.stored.rows
    c.add_new.new.self c.reserve.new.stored.rows c.reserve.new.stored.capacity
    (cell_of c.args.row.now ∷ [])
added c = made_one c.self.inside.cells c.self.inside.stored.rows c.self.inside.stored.capacity
    c.add_new.new.self c.reserve.new.stored.rows c.reserve.new.stored.capacity
    (cell_of c.args.row.now) c.self.invariant (behind c) c.reserve.ensures.rows
    c.in_ok-reserve.ensures.ok c.in_ok-reserve.ensures.few

pub invariant_of-self : goal.invariant_of-self
invariant_of-self c = (unreserved (goal.at.invariant_of-self c).After-reserve).in_step

pub returns-in_err-reserve-clause-err : goal.returns-in_err-reserve-clause-err
returns-in_err-reserve-clause-err c = always_err c.from_residual.result
    ((unreserved (goal.at.returns-in_err-reserve-clause-err c).After-reserve).rows
    ∙ ap (λ (s : Standing). s.rows) c.self.view_is)

pub renew-requires-clause-step : goal.renew-requires-clause-step
renew-requires-clause-step c = (there (goal.at.renew-requires-clause-step c).In-Ok-Some).in_step

pub renew-requires-clause-there : goal.renew-requires-clause-there
renew-requires-clause-there c =
    let p = found (goal.at.renew-requires-clause-there c).In-Ok-Some in
    ap (position (cell_eq (cell_of c.args.row.now))) (cell_there c.release.new.cells
    c.add_new.new.self c.cell.result c.in-Ok-Some.place c.in-Ok-Some.ensures.ok p)
    ∙ ap (λ (cell : Cell). position (cell_eq cell) c.release.new.cells) (sym c.cell.ensures) ∙ sym p

pub append-requires-clause-step : goal.append-requires-clause-step
append-requires-clause-step c = (added (goal.at.append-requires-clause-step c).In-Ok-None).in_step

pub append-requires-clause-first : goal.append-requires-clause-first
append-requires-clause-first c = ap (λ (room : List Cell). slice_get room 0)
    (added (goal.at.append-requires-clause-first c).In-Ok-None).room

pub append-requires-clause-absent : goal.append-requires-clause-absent
append-requires-clause-absent c =
    let here = (goal.at.append-requires-clause-absent c).In-Ok-None in
    made_absent c.self.inside.cells c.self.inside.stored.rows c.add_new.new.self
    c.reserve.new.stored.rows (cell_of c.args.row.now) c.self.invariant.within
    (behind here) c.reserve.ensures.rows
    (ap (list_any (cell_eq (cell_of c.args.row.now))) (sym (c.release.ensures
    ∙ ap (λ n. take n c.self.inside.cells) c.len.ensures))
    ∙ ap (λ (cell : Cell). list_any (cell_eq cell) c.release.new.cells) (sym c.cell.ensures)
    ∙ any-position (cell_eq c.cell.result) c.release.new.cells ∙ ap is_some (sym (unfound here)))

pub invariant_of-self-in-Err : goal.invariant_of-self-in-Err
invariant_of-self-in-Err c = (unadded (goal.at.invariant_of-self-in-Err c).In-Err).in_step

pub returns-in-Err-clause-err : goal.returns-in-Err-clause-err
returns-in-Err-clause-err c = (unadded (goal.at.returns-in-Err-clause-err c).In-Err).rows
    ∙ ap (λ (s : Standing). s.rows) c.self.view_is

pub returns-in-Ok-Some-clause-verdict : goal.returns-in-Ok-Some-clause-verdict
returns-in-Ok-Some-clause-verdict c =
    c.renew.ensures.verdict ∙ ap (λ (rows : List Row). verdict_of rows c.args.row.now)
    ((there (goal.at.returns-in-Ok-Some-clause-verdict c).In-Ok-Some).rows
    ∙ ap (λ (s : Standing). s.rows) c.self.view_is)

pub returns-in-Ok-Some-clause-rows : goal.returns-in-Ok-Some-clause-rows
returns-in-Ok-Some-clause-rows c =
    c.renew.ensures.rows ∙ ap (λ (rows : List Row). rows_after rows c.args.row.now)
    ((there (goal.at.returns-in-Ok-Some-clause-rows c).In-Ok-Some).rows
    ∙ ap (λ (s : Standing). s.rows) c.self.view_is)

pub returns-in-Ok-Some-clause-placed : goal.returns-in-Ok-Some-clause-placed
returns-in-Ok-Some-clause-placed c =
    arrive_placed c.args.self.now.rows _ c.args.row.now c.renew.result (subst
    (λ (s : Standing). IsDistinct same_cell s.rows) c.self.view_is c.self.invariant.apart)
    (returns-in-Ok-Some-clause-verdict c) (returns-in-Ok-Some-clause-rows c)

pub returns-in-Ok-None-clause-verdict : goal.returns-in-Ok-None-clause-verdict
returns-in-Ok-None-clause-verdict c =
    sym c.append.ensures.new ∙ ap (λ (rows : List Row). verdict_of rows c.args.row.now)
    ((added (goal.at.returns-in-Ok-None-clause-verdict c).In-Ok-None).rows
    ∙ ap (λ (s : Standing). s.rows) c.self.view_is)

pub returns-in-Ok-None-clause-rows : goal.returns-in-Ok-None-clause-rows
returns-in-Ok-None-clause-rows c =
    c.append.ensures.rows ∙ ap (λ (rows : List Row). rows_after rows c.args.row.now)
    ((added (goal.at.returns-in-Ok-None-clause-rows c).In-Ok-None).rows
    ∙ ap (λ (s : Standing). s.rows) c.self.view_is)

pub returns-in-Ok-None-clause-placed : goal.returns-in-Ok-None-clause-placed
returns-in-Ok-None-clause-placed c =
    arrive_placed c.args.self.now.rows _ c.args.row.now _ (subst
    (λ (s : Standing). IsDistinct same_cell s.rows) c.self.view_is c.self.invariant.apart)
    (returns-in-Ok-None-clause-verdict c) (returns-in-Ok-None-clause-rows c)
