use Rattle.sample_book.specs.Rows.{verdict_of}
use Rattle.sample_tests.proofs.HeldEvents.{few_put, held_put}
use Rattle.sample_tests.proofs.counted_minutes.put_row.Goals as goal

pub returns-then-is_put-clause-held : goal.returns-then-is_put-clause-held
returns-then-is_put-clause-held c held own = held_put c.args.book.now.rows c.put.new.self.rows
    c.args.row.now (verdict_of c.args.book.now.rows c.args.row.now) c.put.ensures.placed held own

pub returns-then-is_put-clause-few : goal.returns-then-is_put-clause-few
returns-then-is_put-clause-few c = few_put c.args.book.now.rows c.put.new.self.rows c.args.row.now
    (verdict_of c.args.book.now.rows c.args.row.now) c.put.ensures.placed
