use Rattle.yaml_terms.proofs.Failures.{no_ok}
use Rattle.yaml_subset.proofs.entries.OpenEntries.ended.Goals as goal

pub returns-in_err-push : goal.returns-in_err-push
returns-in_err-push c = no_ok _ _ c.from_residual.result c.from_residual.ensures.1
