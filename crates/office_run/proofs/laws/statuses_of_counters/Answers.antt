use Rattle.office_run.proofs.StatusLemmas.{counters_done, counters_file, counters_refused}
use Rattle.office_run.proofs.StatusLemmas.{ends_told}
use Rattle.office_run.proofs.laws.statuses_of_counters.Goals as goal

pub returns-clause-done : goal.returns-clause-done
returns-clause-done g c = λ sli status before after runs e bytes told.
    counters_done sli bytes status _ _ _ _ _ _ runs.end runs.settled
    (ends_told sli bytes _ runs.end _ _ told runs.writes_rows.ends) e

pub returns-clause-refused : goal.returns-clause-refused
returns-clause-refused g c = λ sli status before after runs e bytes told.
    counters_refused sli bytes status _ _ _ _ _ _ runs.end runs.settled
    (ends_told sli bytes _ runs.end _ _ told runs.writes_rows.ends) e

pub returns-clause-file : goal.returns-clause-file
returns-clause-file g c = λ sli status before after runs e.
    counters_file status _ _ _ _ runs.end runs.settled e
