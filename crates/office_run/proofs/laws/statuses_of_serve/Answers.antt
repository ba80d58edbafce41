use Rattle.office_run.proofs.ServerLemmas.{server_bad, server_done, server_unrefused}
use Rattle.office_run.proofs.laws.statuses_of_serve.Goals as goal

pub returns : goal.returns
returns g c = λ port status said said_after tellings tellings_after old new before after runs.
    let D = g.D.Disk in
    record {
      bad_file =
          server_bad D.senses _ port status said said_after tellings tellings_after old new before
          after runs.end runs.settled runs.serves;
      done =
          server_done D.senses _ port status said said_after tellings tellings_after old new before
          after runs.end runs.settled runs.serves;
      unrefused =
          server_unrefused status said said_after tellings tellings_after runs.end runs.settled;
    }
