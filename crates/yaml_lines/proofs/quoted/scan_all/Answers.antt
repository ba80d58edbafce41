use Rattle.yaml_terms.proofs.Failures.{no_ok}
use Rattle.yaml_lines.proofs.quoted.scan_all.Goals as goal

pub returns-in_err-scan-clause-value : goal.returns-in_err-scan-clause-value
returns-in_err-scan-clause-value c = no_ok _ _ c.from_residual.result c.from_residual.ensures.1

pub returns-in_err-scan-clause-within : goal.returns-in_err-scan-clause-within
returns-in_err-scan-clause-within c = no_ok _ _ c.from_residual.result c.from_residual.ensures.1
