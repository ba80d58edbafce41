use Rattle.sample_book.proofs.HistoryLemmas.{rows-held, exclusions-held, excluded-held}
use Rattle.sample_book.proofs.laws.a_book_is_what_came.Goals as goal

pub returns-clause-rows : goal.returns-clause-rows
returns-clause-rows c = rows-held

pub returns-clause-exclusions : goal.returns-clause-exclusions
returns-clause-exclusions c = exclusions-held

pub returns-clause-excluded : goal.returns-clause-excluded
returns-clause-excluded c = excluded-held
