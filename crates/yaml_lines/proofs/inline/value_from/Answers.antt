use Rattle.yaml_terms.proofs.Failures.{no_ok}
use Rattle.yaml_lines.proofs.inline.value_from.Goals as goal

pub returns-in_err-read_quoted : goal.returns-in_err-read_quoted
returns-in_err-read_quoted c = no_ok _ _ c.from_residual.result c.from_residual.ensures.1

pub returns-in_err-read_flow : goal.returns-in_err-read_flow
returns-in_err-read_flow c =
    no_ok _ _ c.from_residual-in_err-read_flow.result c.from_residual-in_err-read_flow.ensures.1
