use Rattle.office_run.proofs.StatusLemmas.{generate_done}
use Rattle.office_run.proofs.laws.statuses_of_generate.Goals as goal

pub returns : goal.returns
returns g c = λ number status before after runs e.
    generate_done number status runs.end _ _ _ _ _ _ _ _ runs.settled runs.generates e
