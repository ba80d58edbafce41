use Rattle.yaml_terms.proofs.Failures.{no_ok}
use Rattle.yaml_lines.proofs.block.with_more_feeds.Goals as goal

pub returns-in_err-text : goal.returns-in_err-text
returns-in_err-text c = no_ok _ _ c.from_residual.result c.from_residual.ensures.1

pub returns-in_err-push : goal.returns-in_err-push
returns-in_err-push c =
    no_ok _ _ c.from_residual-in_err-push.result c.from_residual-in_err-push.ensures.1
