use Rattle.std.proofs.Common.{ap, ◌∙◌}
use Rattle.yaml_lines.specs.Scan.{scan_end}
use Rattle.yaml_lines.proofs.ScanLemmas.{scan_quoted}
use Rattle.yaml_terms.proofs.Failures.{no_ok}
use Rattle.yaml_lines.proofs.quoted.read_quoted.Goals as goal

pub returns-clause-value : goal.returns-clause-value
returns-clause-value c = c.end_of.ensures.value ∙ ap scan_end c.in_ok-scan.ensures.value
    ∙ scan_quoted c.args.quote c.args.bytes.now

pub returns-in_err-scan-clause-value : goal.returns-in_err-scan-clause-value
returns-in_err-scan-clause-value c = no_ok _ _ c.from_residual.result c.from_residual.ensures.1

pub returns-in_err-scan-clause-within : goal.returns-in_err-scan-clause-within
returns-in_err-scan-clause-within c = no_ok _ _ c.from_residual.result c.from_residual.ensures.1
