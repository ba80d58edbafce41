use Rattle.std.proofs.Common.{◌+◌, ◌++◌, ◌≤◌, List, length}
use Rattle.csv_records.specs.Records.{Fields, csv_records}
use Rattle.budget_command.specs.Tables.{AreAll, IsFit, IsSoFar, tallies_in}
use Rattle.budget_command.proofs.table.fill_records.Given as goal

-- the records before the reader have been judged, and their rows are kept
abbrev pub invariant-records : goal.invariant-records
invariant-records l = record {
  so_far : (before : List Fields) → AreAll before l.fn.number l.initial.table →
      IsSoFar (before ++ csv_records l.fn.part) l.reader l.next l.table.book.rows l.table.corrected
      l.table.repeated l.table.superseded;
  fit : IsFit l.table.book.rows;
  tallied : tallies_in l.table + 1 ≤ l.next;
  numbered : l.next + length l.reader ≤ l.fn.number + length (csv_records l.fn.part);
}

abbrev pub decreases-records : goal.decreases-records
decreases-records l = length l.reader
