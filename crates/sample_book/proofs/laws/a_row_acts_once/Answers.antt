use Rattle.sample_book.proofs.BatchLemmas.{settled-once, settled-stays}
use Rattle.sample_book.proofs.laws.a_row_acts_once.Goals as goal

pub returns-clause-settled : goal.returns-clause-settled
returns-clause-settled c = settled-once

pub returns-clause-stays : goal.returns-clause-stays
returns-clause-stays c = settled-stays
