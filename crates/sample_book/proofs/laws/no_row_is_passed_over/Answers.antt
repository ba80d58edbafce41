use Rattle.sample_book.proofs.LastRowLemmas.{last_place-is}
use Rattle.sample_book.proofs.laws.no_row_is_passed_over.Goals as goal

pub returns : goal.returns
returns c = last_place-is
