use Rattle.csv_records.proofs.Worked as Worked
use Rattle.document_tests.proofs.csv_texts.worked_texts.Goals as goal

pub returns : goal.returns
returns c = Worked.worked_texts
