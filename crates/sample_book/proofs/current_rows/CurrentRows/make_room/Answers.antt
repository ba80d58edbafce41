use Rattle.std.proofs.Common.{◌≡◌, ◌∙◌, ◌++◌, [], ap, sym, arith, length, take}
use Rattle.std.proofs.lemmas.List.{append-nil}
use Rattle.sample_book.specs.Rows.{new_cells, room_for}
use Rattle.sample_book.specs.Standing.{Standing}
use Rattle.sample_book.proofs.StandingLemmas.{RoomMade, room_made, cells-rows, length-new_cells}
use Rattle.sample_book.proofs.StandingLemmas.{length-taken}
use Rattle.sample_book.proofs.current_rows.CurrentRows.make_room.Goals as goal

unmade : (c : goal.After-from_residual) → RoomMade c.self.inside.cells c.self.inside.stored.rows
    c.truncate.new.self c.reserve.new.stored.rows c.reserve.new.stored.capacity []
unmade c =
    let cells = c.self.inside.cells in
    let stored = c.self.inside.stored.rows in
    room_made cells stored c.self.inside.stored.capacity c.truncate.new.self
    c.reserve.new.stored.rows c.reserve.new.stored.capacity [] c.self.invariant
    (c.truncate.ensures ∙ ap (λ n. take n cells) c.len-filled.ensures
    ∙ sym (append-nil (take (length stored) cells)))
    c.reserve.ensures.rows
    (omega (arith, c.self.invariant.within, c.self.invariant.ready, c.reserve.ensures.capacity))
    (omega (arith, c.self.invariant.within, c.self.invariant.few))

pub invariant_of-self : goal.invariant_of-self
invariant_of-self c = (unmade c).in_step

pub returns-in_err-reserve-clause-rows : goal.returns-in_err-reserve-clause-rows
returns-in_err-reserve-clause-rows c = (unmade c).rows
    ∙ ap (λ (s : Standing). s.rows) c.self.view_is

-- after a refusal the cells are the first ones again
cut : (c : goal.After-truncate-in-Err) → RoomMade c.self.inside.cells c.self.inside.stored.rows
    c.truncate-in-Err.new.self c.reserve.new.stored.rows c.reserve.new.stored.capacity []
cut c =
    let cells = c.self.inside.cells in
    let stored = c.self.inside.stored.rows in
    let filled = c.len-filled.ensures in
    let first : c.truncate.new.self ≡ take (length stored) cells = c.truncate.ensures
    ∙ ap (λ n. take n cells) filled in
    let long : length c.truncate.new.self ≡ length stored = ap length first
    ∙ length-taken cells (length stored) c.self.invariant.within in
    room_made cells stored c.self.inside.stored.capacity c.truncate-in-Err.new.self
    c.reserve.new.stored.rows c.reserve.new.stored.capacity [] c.self.invariant
    (c.truncate-in-Err.ensures
    ∙ ap (λ n. take n c.add_cells.new.cells) (filled ∙ sym long)
    ∙ c.in-Err.ensures.err ∙ first ∙ sym (append-nil (take (length stored) cells)))
    c.reserve.ensures.rows
    (omega (arith, c.self.invariant.within, c.self.invariant.ready, c.reserve.ensures.capacity))
    (omega (arith, c.self.invariant.within, c.self.invariant.few))

pub invariant_of-self-in-Err : goal.invariant_of-self-in-Err
invariant_of-self-in-Err c = (cut c).in_step

pub returns-in-Err-clause-rows : goal.returns-in-Err-clause-rows
returns-in-Err-clause-rows c = (cut c).rows ∙ ap (λ (s : Standing). s.rows) c.self.view_is

-- the new cells come behind the first ones
made : (c : goal.In-Ok) → RoomMade c.self.inside.cells c.self.inside.stored.rows
    c.add_cells.new.cells c.reserve.new.stored.rows c.reserve.new.stored.capacity
    (new_cells (take (length c.self.inside.stored.rows) c.self.inside.cells) c.args.rows.now)
made c =
    let cells = c.self.inside.cells in
    let stored = c.self.inside.stored.rows in
    let first : c.truncate.new.self ≡ take (length stored) cells = c.truncate.ensures
    ∙ ap (λ n. take n cells) c.len-filled.ensures in
    room_made cells stored c.self.inside.stored.capacity c.add_cells.new.cells
    c.reserve.new.stored.rows c.reserve.new.stored.capacity
    (new_cells (take (length stored) cells) c.args.rows.now) c.self.invariant
    (c.in-Ok.ensures.ok ∙ ap (λ cells. cells ++ new_cells cells c.args.rows.now) first)
    c.reserve.ensures.rows
    (omega (
      arith,
      c.in_ok-reserve.ensures.ok,
      length-new_cells (take (length stored) cells) c.args.rows.now,
    ))
    (omega (
      arith,
      c.in_ok-reserve.ensures.few,
      length-new_cells (take (length stored) cells) c.args.rows.now,
    ))

pub invariant_of-self-in-Ok : goal.invariant_of-self-in-Ok
invariant_of-self-in-Ok c = (made c).in_step

pub returns-in-Ok-clause-rows : goal.returns-in-Ok-clause-rows
returns-in-Ok-clause-rows c = (made c).rows ∙ ap (λ (s : Standing). s.rows) c.self.view_is

pub returns-in-Ok-clause-room : goal.returns-in-Ok-clause-room
returns-in-Ok-clause-room c =
    (made c).room
    ∙ ap (λ cells. new_cells cells c.args.rows.now)
    (sym (cells-rows c.self.inside.cells c.self.inside.stored.rows))
    ∙ ap (λ (s : Standing). room_for s.rows c.args.rows.now) c.self.view_is
