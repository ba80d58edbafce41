use Rattle.office_run.proofs.StatusLemmas.{init_bad, init_refused, init_taken}
use Rattle.office_run.proofs.laws.statuses_of_init.Goals as goal

pub returns-clause-bad_file : goal.returns-clause-bad_file
returns-clause-bad_file g c = λ origin status before after runs e file read.
    let D = g.D.Disk in
    init_bad D.senses status _ _ _ _ _ _ _ _ runs.end runs.settled runs.makes.ends e file read

pub returns-clause-refused : goal.returns-clause-refused
returns-clause-refused g c = λ origin status before after runs e.
    let D = g.D.Disk in (
      runs.makes.reading,
      runs.makes.reads,
      init_refused D.senses status _ _ _ _ _ _ _ _ runs.end runs.settled runs.makes.ends e,
    )

pub returns-clause-taken : goal.returns-clause-taken
returns-clause-taken g c = λ origin status before after runs e.
    let D = g.D.Disk in (
      runs.makes.reading,
      runs.makes.reads,
      init_taken D.senses status _ _ _ _ _ _ _ _ runs.end runs.settled runs.makes.ends e,
    )
