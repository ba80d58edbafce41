use Rattle.yaml_terms.proofs.Failures.{no_ok}
use Rattle.yaml_lines.proofs.inline.key_from.Goals as goal

pub returns-in_err-read_quoted-clause-value : goal.returns-in_err-read_quoted-clause-value
returns-in_err-read_quoted-clause-value c =
    no_ok _ _ c.from_residual.result c.from_residual.ensures.1

pub returns-in_err-read_quoted-clause-within : goal.returns-in_err-read_quoted-clause-within
returns-in_err-read_quoted-clause-within c =
    no_ok _ _ c.from_residual.result c.from_residual.ensures.1
