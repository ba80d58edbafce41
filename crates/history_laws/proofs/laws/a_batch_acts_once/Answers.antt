use Rattle.history_laws.proofs.OnceLemmas.{batch_acts_once, batch_brings_nothing}
use Rattle.history_laws.proofs.laws.a_batch_acts_once.Goals as goal

pub returns-clause-same : goal.returns-clause-same
returns-clause-same c =
    batch_acts_once c.legal_rows_are_read.ensures.rows c.legal_days_are_few.ensures

pub returns-clause-settled : goal.returns-clause-settled
returns-clause-settled c =
    batch_brings_nothing
    (batch_acts_once c.legal_rows_are_read.ensures.rows c.legal_days_are_few.ensures)
