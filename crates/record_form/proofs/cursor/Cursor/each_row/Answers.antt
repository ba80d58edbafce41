use Rattle.std.proofs.lemmas.Result.{err_from_is_err_and}
use Rattle.record_form.specs.Form.{reading_of_each}
use Rattle.record_form.specs.Records.{row}
use Rattle.record_form.proofs.LoopLemmas.{goes_on, ends, is_done}
use Rattle.record_form.proofs.cursor.Cursor.each_row.Goals as goal

pub returns-in_err-add_row : goal.returns-in_err-add_row
returns-in_err-add_row c =
    let p = err_from_is_err_and c.from_residual.result c.from_residual.ensures.1 in
    rw (p.1, p.2) (ends c.in_err-add_row.field-0.0 row c.loop.rows.items c.args.count c.loop.counter
    c.loop.self.left.now (reading_of_each row c.args.count c.args.self.now.left.now)
    c.loop-test.true c.in_err-add_row.ensures c.loop.invariant)

pub loop-preserved : goal.loop-preserved
loop-preserved c =
    goes_on row c.loop.rows.items c.args.count c.loop.counter c.loop.self.left.now
    c.add_row.new.rows.items c.add_row.new.self.left.now (reading_of_each row c.args.count
    c.args.self.now.left.now) c.loop-test.true c.in_ok-add_row.ensures
    c.loop.invariant

pub returns : goal.returns
returns c = is_done row c.loop.rows.items c.args.count c.loop.counter c.loop.self.left.now
    (reading_of_each row c.args.count c.args.self.now.left.now) c.loop-test.false c.loop.invariant
