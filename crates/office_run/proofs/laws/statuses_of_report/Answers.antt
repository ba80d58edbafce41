use Rattle.office_run.proofs.StatusLemmas.{report_bad, report_done, report_refused}
use Rattle.office_run.proofs.laws.statuses_of_report.Goals as goal

pub returns-clause-bad_file : goal.returns-clause-bad_file
returns-clause-bad_file g c = λ at status before after runs e file read.
    let D = g.D.Disk in
    report_bad D.senses at runs.reports.reading status _ _ _ _ _ _ runs.end runs.settled
    runs.reports.ends e file read

pub returns-clause-refused : goal.returns-clause-refused
returns-clause-refused g c = λ at status before after runs e.
    let D = g.D.Disk in (
      runs.reports.reading,
      runs.reports.reads,
      report_refused D.senses at runs.reports.reading status _ _ _ _ _ _ runs.end
          runs.settled runs.reports.ends e,
    )

pub returns-clause-done : goal.returns-clause-done
returns-clause-done g c = λ at status before after runs e.
    let D = g.D.Disk in (
      runs.reports.reading,
      runs.reports.reads,
      report_done D.senses at runs.reports.reading status _ _ _ _ _ _ runs.end
          runs.settled runs.reports.ends e,
    )
