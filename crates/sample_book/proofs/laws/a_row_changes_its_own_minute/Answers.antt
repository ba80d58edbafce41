use Rattle.sample_book.specs.declared.row.Row.{Row}
use Rattle.slice_method.specs.Readings.{counts}
use Rattle.sample_book.proofs.TallyLemmas.{amount-put}
use Rattle.sample_book.proofs.laws.a_row_changes_its_own_minute.Goals as goal

pub returns-clause-good : goal.returns-clause-good
returns-clause-good c rows after row verdict reading op value sli minute put = amount-put
    (λ (row : Row). (counts reading op value row.amount).good) sli minute rows after row verdict put

pub returns-clause-total : goal.returns-clause-total
returns-clause-total c rows after row verdict reading op value sli minute put =
    amount-put (λ (row : Row). (counts reading op value row.amount).total) sli minute rows after
    row verdict put
