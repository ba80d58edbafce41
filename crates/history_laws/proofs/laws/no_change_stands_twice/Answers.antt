use Rattle.history_laws.proofs.OnceLemmas.{none_stands_twice}
use Rattle.history_laws.proofs.laws.no_change_stands_twice.Goals as goal

pub returns : goal.returns
returns c =
    none_stands_twice c.a_history_begins_legally.ensures.begins
    c.a_history_begins_legally.ensures.each c.each_change_acts_once.ensures
