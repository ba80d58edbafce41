use Rattle.office_run.proofs.MigrateLemmas.{migrate_bad, migrate_done, migrate_refused}
use Rattle.office_run.proofs.laws.statuses_of_migrate.Goals as goal

pub returns-clause-bad_file : goal.returns-clause-bad_file
returns-clause-bad_file g c = λ status before after runs e file read.
    let D = g.D.Disk in
    migrate_bad D.senses runs.migrates.reading status _ _ _ _ _ _ runs.end runs.settled
    runs.migrates.ends e file read

pub returns-clause-refused : goal.returns-clause-refused
returns-clause-refused g c = λ status before after runs e.
    let D = g.D.Disk in (
      runs.migrates.reading,
      runs.migrates.reads,
      migrate_refused D.senses runs.migrates.reading status _ _ _ _ _ _ runs.end runs.settled
          runs.migrates.ends e,
    )

pub returns-clause-done : goal.returns-clause-done
returns-clause-done g c = λ status before after runs e.
    let D = g.D.Disk in (
      runs.migrates.reading,
      runs.migrates.reads,
      migrate_done D.senses runs.migrates.reading status _ _ _ _ _ _ runs.end runs.settled
          runs.migrates.ends e,
    )
