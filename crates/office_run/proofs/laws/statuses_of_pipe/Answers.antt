use Rattle.office_run.proofs.StatusLemmas.{pipe_bad}
use Rattle.office_run.proofs.laws.statuses_of_pipe.Goals as goal

pub returns : goal.returns
returns g c = λ status before after runs e file read.
    let D = g.D.Disk in
    pipe_bad D.senses status _ _ _ _ _ _ _ _ runs.end runs.settled runs.serves e file read
