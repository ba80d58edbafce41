use Rattle.sample_book.proofs.StoredLemmas.{none_stored}
use Rattle.sample_book.proofs.stored_rows.StoredRows.new.Goals as goal

pub invariant_of-result : goal.invariant_of-result
invariant_of-result c =
    none_stored c.new.result.items c.new-2.result.items _ c.new.ensures.items c.new-2.ensures.items
