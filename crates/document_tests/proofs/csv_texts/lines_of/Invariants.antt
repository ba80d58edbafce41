use Rattle.std.proofs.Common.{length}
use Rattle.document_tests.proofs.csv_texts.lines_of.Given as goal

abbrev pub decreases-records : goal.decreases-records
decreases-records l = length l.reader
