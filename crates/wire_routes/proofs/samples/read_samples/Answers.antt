use Rattle.wire_routes.proofs.RowLemmas.{other_err}
use Rattle.wire_routes.proofs.samples.read_samples.Goals as goal

pub returns-in-Err-clause-fault : goal.returns-in-Err-clause-fault
returns-in-Err-clause-fault c = λ number e.
    c.in-Err.ensures.fault number (other_err c.in-Err.fault _ e)
