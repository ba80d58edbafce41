use Rattle.turn_counter.proofs.Holding.{own_entries_stay, queries_own_nothing}
use Rattle.turn_counter.proofs.laws.an_own_entry_stays.Goals as goal

pub returns-clause-changes : goal.returns-clause-changes
returns-clause-changes c = own_entries_stay

pub returns-clause-queries : goal.returns-clause-queries
returns-clause-queries c = queries_own_nothing
