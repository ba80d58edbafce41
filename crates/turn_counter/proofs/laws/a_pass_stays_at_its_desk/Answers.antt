use Rattle.turn_counter.proofs.Staying.{end_stays, turns_stay}
use Rattle.turn_counter.proofs.laws.a_pass_stays_at_its_desk.Goals as goal

pub returns-clause-turns : goal.returns-clause-turns
returns-clause-turns g c = turns_stay g.D.Disk.senses

pub returns-clause-end : goal.returns-clause-end
returns-clause-end g c = end_stays g.D.Disk.senses
