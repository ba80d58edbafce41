use Rattle.turn_counter.proofs.Reading.{new_sees_all, sees_beginning}
use Rattle.turn_counter.proofs.laws.what_a_pass_has_seen.Goals as goal

pub returns-clause-beginnings : goal.returns-clause-beginnings
returns-clause-beginnings c = sees_beginning c.an_entry_is_read_back.ensures

pub returns-clause-all : goal.returns-clause-all
returns-clause-all c = new_sees_all c.an_entry_is_read_back.ensures
