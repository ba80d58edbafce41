use Rattle.yaml_terms.proofs.Failures.{no_ok}
use Rattle.yaml_lines.proofs.flow.read_flow.Goals as goal

pub returns-in_err-list : goal.returns-in_err-list
returns-in_err-list c = no_ok _ _ c.from_residual.result c.from_residual.ensures.1
