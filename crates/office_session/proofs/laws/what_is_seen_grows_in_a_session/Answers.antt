use Rattle.office_session.proofs.Owning.{turns_extend, end_extends}
use Rattle.office_session.proofs.laws.what_is_seen_grows_in_a_session.Goals as goal

pub returns-clause-turns : goal.returns-clause-turns
returns-clause-turns g c = turns_extend g.T.Counter.asks g.T.Counter.standing g.met.T.Counter.steps

pub returns-clause-end : goal.returns-clause-end
returns-clause-end g c = end_extends g.T.Counter.asks g.T.Counter.standing g.met.T.Counter.steps
