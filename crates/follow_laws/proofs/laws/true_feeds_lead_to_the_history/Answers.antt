use Rattle.follow_laws.proofs.Feeding.{follows_feeds}
use Rattle.follow_laws.proofs.laws.true_feeds_lead_to_the_history.Goals as goal

pub returns : goal.returns
returns c = follows_feeds c.a_history_begins_legally.ensures.each
    c.an_entry_is_read_back.ensures c.records_have_sizes.ensures
