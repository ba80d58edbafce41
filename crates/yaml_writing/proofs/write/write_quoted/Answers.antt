use Rattle.yaml_terms.proofs.Failures.{no_on}
use Rattle.yaml_writing.proofs.write.write_quoted.Goals as goal

pub returns-in_err-push : goal.returns-in_err-push
returns-in_err-push c = no_on _ _ c.from_residual.result c.from_residual.ensures.1

pub returns-in_err-write_escaped : goal.returns-in_err-write_escaped
returns-in_err-write_escaped c = no_on _ _ c.from_residual-in_err-write_escaped.result
    c.from_residual-in_err-write_escaped.ensures.1

pub returns-in_err-push-2 : goal.returns-in_err-push-2
returns-in_err-push-2 c =
    no_on _ _ c.from_residual-in_err-push-2.result c.from_residual-in_err-push-2.ensures.1
