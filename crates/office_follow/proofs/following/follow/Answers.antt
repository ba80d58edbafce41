use Rattle.office_follow.proofs.LeadLemmas.{leads}
use Rattle.office_follow.proofs.following.follow.Goals as goal

pub returns-clause-leads : goal.returns-clause-leads
returns-clause-leads g c =
    leads g.D.Disk.senses c.true_feeds_lead_to_the_history.ensures c.args.office.now
    (g.S.Source.left c.args.input.now) (g.S.Source.faults c.args.input.now) c.follow_all-end.result
    c.follow_all-end.new.office (g.S.Source.faults c.follow_all-end.new.input)
    c.follow_all-end.ensures
