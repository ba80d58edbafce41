use Rattle.std.proofs.Common.{◌≡◌, ◌++◌, [], take, length}
use Rattle.std.specs.Int.{w16}
use Rattle.std.specs.List.{AllByRecursion}
use Rattle.record_form.specs.Form.{number, spelling_of_each}
use Rattle.record_form.specs.Records.{row}
use Rattle.record_form.specs.Ranges.{FitsRow}
use Rattle.record_form.proofs.writing.put_rows.Given as goal

-- What was written is the count and the rows so far, and each of these has a spelling.
pub record SoFar (P Q : Type 0) : Type 0 where
  pub bytes : P
  pub fits : Q

abbrev pub invariant-loop-row : goal.invariant-loop-row
invariant-loop-row l =
    SoFar (l.out.items ≡ (l.fn.out.items ++ (number w16).write (length l.rows) [])
    ++ spelling_of_each row (take l.row-index l.rows) [])
    (AllByRecursion FitsRow (take l.row-index l.rows))
