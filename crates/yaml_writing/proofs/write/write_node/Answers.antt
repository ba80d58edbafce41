use Rattle.yaml_terms.specs.NodeView.{node_view}
use Rattle.yaml_writing.proofs.WriteLemmas.{where_ok, node_stands}
use Rattle.yaml_terms.proofs.Failures.{no_on}
use Rattle.yaml_writing.proofs.write.write_node.Goals as goal

pub returns-clause-alone : goal.returns-clause-alone
returns-clause-alone c = where_ok c.write_spelling.result _
    (node_stands c.args.indent (node_view c.args.node.now) c.requires)

pub returns-in_err-value-clause-exact : goal.returns-in_err-value-clause-exact
returns-in_err-value-clause-exact c = no_on _ _ c.from_residual.result c.from_residual.ensures.1

pub returns-in_err-value-clause-alone : goal.returns-in_err-value-clause-alone
returns-in_err-value-clause-alone c = no_on _ _ c.from_residual.result c.from_residual.ensures.1
