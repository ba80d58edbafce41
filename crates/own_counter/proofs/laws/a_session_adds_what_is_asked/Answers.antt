use Rattle.own_counter.proofs.Asked.{turns_add, end_adds}
use Rattle.own_counter.proofs.laws.a_session_adds_what_is_asked.Goals as goal

pub returns-clause-turns : goal.returns-clause-turns
returns-clause-turns g c = turns_add g.D.Disk.senses

pub returns-clause-end : goal.returns-clause-end
returns-clause-end g c = end_adds g.D.Disk.senses
