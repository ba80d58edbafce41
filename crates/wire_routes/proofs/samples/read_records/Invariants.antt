use Rattle.std.proofs.Common.{◌≡◌, ◌+◌, ◌≤◌, length}
use Rattle.csv_records.specs.Records.{csv_records}
use Rattle.wire_routes.specs.RowByRow.{rows_behind, rows_from}
use Rattle.wire_routes.proofs.samples.read_records.Given as goal

-- the rows so far, and then those of what is left
abbrev pub invariant-records : goal.invariant-records
invariant-records l = record {
  so_far : rows_behind l.rows (rows_from l.next l.reader)
      ≡ rows_behind l.initial.rows (rows_from l.fn.number (csv_records l.fn.text));
  few : l.next + length l.reader ≤ l.fn.number + length (csv_records l.fn.text);
}

abbrev pub decreases-records : goal.decreases-records
decreases-records l = length l.reader
