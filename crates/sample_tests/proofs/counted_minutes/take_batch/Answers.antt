use Rattle.sample_tests.proofs.HeldEvents.{may_come}
use Rattle.sample_tests.proofs.counted_minutes.take_batch.Goals as goal

pub put_rows-requires-clause-may : goal.put_rows-requires-clause-may
put_rows-requires-clause-may c =
    may_come c.args.book.now.rows c.make_room.new.self.rows c.make_room.new.self.room
    c.args.rows.now c.rows_are_current.ensures c.make_room.ensures.rows
    c.in-Ok.ensures.room (c.room_is_enough.ensures c.args.book.now.rows c.args.rows.now)
