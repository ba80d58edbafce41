use Rattle.window_sums.proofs.RaisedFacts.{HasAtMost-none}
use Rattle.sample_tests.proofs.added_events.start.Goals as goal

pub returns-clause-few : goal.returns-clause-few
returns-clause-few c = HasAtMost-none c.new.result c.new.ensures.days
