use Rattle.cell_index.proofs.CellLemmas.{never_ok}
use Rattle.cell_index.proofs.cells.give_key.Goals as goal

pub returns-in_err-pair-clause-key : goal.returns-in_err-pair-clause-key
returns-in_err-pair-clause-key c =
    never_ok _ _ c.from_residual.result c.from_residual.ensures.1
