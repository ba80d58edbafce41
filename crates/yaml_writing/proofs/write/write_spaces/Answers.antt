use Rattle.yaml_terms.proofs.BlockLemmas.{bytes_more, bytes_all}
use Rattle.yaml_terms.proofs.Failures.{no_on}
use Rattle.yaml_writing.proofs.write.write_spaces.Goals as goal

pub returns-in_err-push : goal.returns-in_err-push
returns-in_err-push c = no_on _ _ c.from_residual.result c.from_residual.ensures.1

pub loop-done-preserved : goal.loop-done-preserved
loop-done-preserved c =
    bytes_more _ _ _ c.loop-done.done 32 c.loop-done.invariant c.in_ok-push.ensures.items

pub returns : goal.returns
returns c = bytes_all _ _ c.loop-done.done _ 32 c.loop-done.invariant c.loop-done.auto.done-end
    c.loop-done-test.false
