use Rattle.sample_book.proofs.BatchLemmas.{current-append, verdicts-over}
use Rattle.sample_book.proofs.laws.only_current_rows_count.Goals as goal

pub returns-clause-rows : goal.returns-clause-rows
returns-clause-rows c = current-append

pub returns-clause-verdicts : goal.returns-clause-verdicts
returns-clause-verdicts c = verdicts-over
