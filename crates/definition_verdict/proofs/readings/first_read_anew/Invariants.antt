use Rattle.std.proofs.Common.{◌≡◌, drop}
use Rattle.office_history.specs.Readings.{first_read_anew}
use Rattle.definition_verdict.proofs.readings.first_read_anew.Given as goal

-- no indicator so far would be read otherwise
abbrev pub invariant-loop-object : goal.invariant-loop-object
invariant-loop-object l =
    first_read_anew l.catalog l.book.rows (drop l.object-index l.objects)
    ≡ first_read_anew l.catalog l.book.rows l.objects
