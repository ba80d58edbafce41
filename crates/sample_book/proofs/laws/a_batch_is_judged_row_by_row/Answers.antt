use Rattle.sample_book.proofs.BatchLemmas.{length-verdicts, verdicts-at}
use Rattle.sample_book.proofs.laws.a_batch_is_judged_row_by_row.Goals as goal

pub returns-clause-verdicts : goal.returns-clause-verdicts
returns-clause-verdicts c = verdicts-at

pub returns-clause-cells : goal.returns-clause-cells
returns-clause-cells c = length-verdicts
