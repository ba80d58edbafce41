use Rattle.yaml_terms.proofs.Failures.{no_ok}
use Rattle.yaml_lines.proofs.block.Block.with_next.Goals as goal

pub returns-in_err-text : goal.returns-in_err-text
returns-in_err-text c = no_ok _ _ c.from_residual.result c.from_residual.ensures.1

pub returns-in_err-text-2 : goal.returns-in_err-text-2
returns-in_err-text-2 c =
    no_ok _ _ c.from_residual-in_err-text-2.result c.from_residual-in_err-text-2.ensures.1
