use Rattle.std.proofs.Common.{◌≡◌, ◌+◌, length}
use Rattle.csv_records.specs.Records.{csv_records}
use Rattle.document_tests.proofs.csv_texts.count_records.Given as goal

-- the records so far and those that are left are all of them
abbrev pub invariant-records : goal.invariant-records
invariant-records l = l.count + length l.reader ≡ length (csv_records l.fn.text)

abbrev pub decreases-records : goal.decreases-records
decreases-records l = length l.reader
