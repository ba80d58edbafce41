use Rattle.office_session.proofs.Owning.{turns_owned, end_owned}
use Rattle.office_session.proofs.laws.own_places_stay_in_a_session.Goals as goal

pub returns-clause-turns : goal.returns-clause-turns
returns-clause-turns g c = turns_owned g.T.Counter.asks g.T.Counter.standing g.met.T.Counter.steps

pub returns-clause-end : goal.returns-clause-end
returns-clause-end g c = end_owned g.T.Counter.asks g.T.Counter.standing g.met.T.Counter.steps
