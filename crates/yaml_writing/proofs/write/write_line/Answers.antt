use Rattle.yaml_terms.proofs.Failures.{no_on}
use Rattle.yaml_writing.proofs.write.write_line.Goals as goal

pub returns-in_err-extend_from_slice : goal.returns-in_err-extend_from_slice
returns-in_err-extend_from_slice c = no_on _ _ c.from_residual.result c.from_residual.ensures.1

pub returns-in_err-push : goal.returns-in_err-push
returns-in_err-push c =
    no_on _ _ c.from_residual-in_err-push.result c.from_residual-in_err-push.ensures.1
