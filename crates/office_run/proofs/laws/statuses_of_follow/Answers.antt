use Rattle.office_run.proofs.FollowLemmas.{follow_bad, follow_leads}
use Rattle.office_run.proofs.laws.statuses_of_follow.Goals as goal

pub returns-clause-bad_file : goal.returns-clause-bad_file
returns-clause-bad_file g c = λ status before after runs e file read.
    follow_bad status _ _ _ _ g.D.Disk.senses _ _ runs.end runs.settled runs.follows e file read

pub returns-clause-leads : goal.returns-clause-leads
returns-clause-leads g c = λ status before after runs.
    follow_leads c.one_history.ensures status _ _ _ _ g.D.Disk.senses _ _ runs.end runs.settled
    runs.follows
