use Rattle.std.proofs.Common.{◌∷◌, drop, length}
use Rattle.csv_records.specs.Records.{csv_records}
use Rattle.budget_command.specs.Tables.{HaveTakenLines}
use Rattle.budget_command.proofs.table.fill_lines.Given as goal

-- the lines before the place have been judged, and their rows are kept
abbrev pub invariant-lines : goal.invariant-lines
invariant-lines l = HaveTakenLines l.fn.part l.fn.number l.initial.table l.at l.next l.table

abbrev pub decreases-lines : goal.decreases-lines
decreases-lines l = length (csv_records (10 ∷ drop l.at l.part))
