use Rattle.sample_book.proofs.StandingLemmas.{in_step_empty}
use Rattle.sample_book.proofs.current_rows.CurrentRows.new.Goals as goal

pub invariant_of-result : goal.invariant_of-result
invariant_of-result c =
    in_step_empty c.new.result c.new-2.result.rows _ c.new.ensures c.new-2.ensures
