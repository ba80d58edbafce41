use Rattle.yaml_terms.proofs.Failures.{no_ok}
use Rattle.yaml_subset.proofs.frame.Frame.closed.Goals as goal

pub returns-in_err-pairs-in-Map : goal.returns-in_err-pairs-in-Map
returns-in_err-pairs-in-Map c = no_ok _ _ c.from_residual.result c.from_residual.ensures.1

pub returns-in_err-items-in-List : goal.returns-in_err-items-in-List
returns-in_err-items-in-List c = no_ok _ _ c.from_residual-in_err-items-in-List.result
    c.from_residual-in_err-items-in-List.ensures.1
