use Rattle.sample_book.proofs.HistoryLemmas.{holds-empty}
use Rattle.sample_book.proofs.book.SampleBook.new.Goals as goal

pub returns-clause-history : goal.returns-clause-history
returns-clause-history c =
    holds-empty c.new.result.rows c.new-3.result.made c.new.ensures.rows c.new-3.ensures
