use Rattle.cell_index.proofs.CellLemmas.{never_ok}
use Rattle.cell_index.proofs.pairs.give_numbers.Goals as goal

pub returns-in_err-sli-clause-numbers : goal.returns-in_err-sli-clause-numbers
returns-in_err-sli-clause-numbers c =
    never_ok _ _ c.from_residual.result c.from_residual.ensures.1

pub returns-in_err-source-clause-numbers : goal.returns-in_err-source-clause-numbers
returns-in_err-source-clause-numbers c =
    never_ok _ _ c.from_residual-in_err-source.result c.from_residual-in_err-source.ensures.1
