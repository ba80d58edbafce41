use Rattle.std.proofs.Common.{◌≡◌, ◌-◌}
use Rattle.record_form.specs.Form.{reading_of_each}
use Rattle.record_form.specs.Records.{row}
use Rattle.record_form.proofs.LoopLemmas.{with_front}
use Rattle.record_form.proofs.cursor.Cursor.each_row.Given as goal

abbrev pub invariant-loop : goal.invariant-loop
invariant-loop l =
    with_front l.rows.items (reading_of_each row (l.count - l.counter) l.self.left.now)
    ≡ reading_of_each row l.count l.fn.self.left.now
