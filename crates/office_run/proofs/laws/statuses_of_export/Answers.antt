use Rattle.office_run.proofs.ExportStatuses.{export_bad, export_done, export_refused}
use Rattle.office_run.proofs.laws.statuses_of_export.Goals as goal

pub returns-clause-bad_file : goal.returns-clause-bad_file
returns-clause-bad_file g c = λ part status before after runs e file read.
    let D = g.D.Disk in
    export_bad D.senses part status _ _ _ _ _ _ _ _ runs.end runs.settled runs.exports.ends e file
    read

pub returns-clause-refused : goal.returns-clause-refused
returns-clause-refused g c = λ part status before after runs e.
    let D = g.D.Disk in
    export_refused D.senses part status _ _ _ _ _ _ _ _ runs.end runs.settled runs.exports.ends e

pub returns-clause-done : goal.returns-clause-done
returns-clause-done g c = λ part status before after runs e.
    let D = g.D.Disk in
    export_done D.senses part status _ _ _ _ _ _ _ _ runs.end runs.settled runs.exports.ends e
