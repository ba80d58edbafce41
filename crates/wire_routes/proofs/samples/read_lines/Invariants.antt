use Rattle.std.proofs.Common.{◌∷◌, drop, length}
use Rattle.csv_records.specs.Records.{csv_records}
use Rattle.wire_routes.specs.RowByRow.{HaveRead}
use Rattle.wire_routes.proofs.samples.read_lines.Given as goal

-- the rows of the lines before the place are added
abbrev pub invariant-lines : goal.invariant-lines
invariant-lines l = HaveRead l.fn.body l.number l.at l.rows

abbrev pub decreases-lines : goal.decreases-lines
decreases-lines l = length (csv_records (10 ∷ drop l.at l.body))
