use Rattle.std.proofs.Common.{map, ◌∙◌, List, length, sym, subst}
use Rattle.cell_index.specs.Chains.{IsIndexed}
use Rattle.sample_book.specs.Rows.{cell_of}
use Rattle.sample_book.specs.declared.row.Row.{Row}
use Rattle.sample_book.proofs.LastRowLemmas.{in_order, room_few}
use Rattle.sample_book.proofs.book.SampleBook.make_room.Goals as goal

pub invariant_of-self-2 : goal.invariant_of-self-2
invariant_of-self-2 c =
    in_order c.make_room.new.self.rows c.make_room.new.self.room c.reserve.new.self
    (length c.args.rows.now)
    (room_few c.make_room.result c.make_room.new.self.room c.release_room.new.self.rows
    c.args.rows.now c.make_room.ensures.room c.make_room.ensures.none)
    (subst (λ (rows : List Row). IsIndexed (map cell_of rows) c.reserve.new.self)
    (sym (c.make_room.ensures.rows ∙ c.release_room.ensures.rows))
    (c.reserve.ensures.indexed (map cell_of c.self.inside.rows.rows) c.self.invariant.indexed))
    c.in_ok-reserve.ensures.ready
