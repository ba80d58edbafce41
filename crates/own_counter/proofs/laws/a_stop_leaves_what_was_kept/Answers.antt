use Rattle.own_counter.proofs.Stops.{turns_leave, end_leaves}
use Rattle.own_counter.proofs.laws.a_stop_leaves_what_was_kept.Goals as goal

pub returns-clause-turns : goal.returns-clause-turns
returns-clause-turns g c = turns_leave g.D.Disk.senses g.met.D.Disk.only_now

pub returns-clause-end : goal.returns-clause-end
returns-clause-end g c = end_leaves g.D.Disk.senses g.met.D.Disk.only_now
