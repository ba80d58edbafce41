use Rattle.std.proofs.Common.{◌∙◌, [], ap, sym, arith, length, take, refl}
use Rattle.std.proofs.lemmas.List.{append-nil}
use Rattle.sample_book.specs.Standing.{Standing}
use Rattle.sample_book.proofs.StandingLemmas.{RoomMade, room_made}
use Rattle.sample_book.proofs.current_rows.CurrentRows.release_room.Goals as goal

-- the cells with rows stay alone
alone : (c : goal.After-truncate) → RoomMade c.self.inside.cells c.self.inside.stored.rows
    c.truncate.new.self c.self.inside.stored.rows c.self.inside.stored.capacity []
alone c =
    let cells = c.self.inside.cells in
    let stored = c.self.inside.stored.rows in
    room_made cells stored c.self.inside.stored.capacity c.truncate.new.self stored
    c.self.inside.stored.capacity [] c.self.invariant
    (c.truncate.ensures ∙ ap (λ n. take n cells) c.len.ensures
    ∙ sym (append-nil (take (length stored) cells)))
    refl
    (omega (arith, c.self.invariant.within, c.self.invariant.ready))
    (omega (arith, c.self.invariant.within, c.self.invariant.few))

pub invariant_of-self : goal.invariant_of-self
invariant_of-self c = (alone c).in_step

pub returns-clause-rows : goal.returns-clause-rows
returns-clause-rows c = (alone c).rows ∙ ap (λ (s : Standing). s.rows) c.self.view_is

pub returns-clause-room : goal.returns-clause-room
returns-clause-room c = (alone c).room
