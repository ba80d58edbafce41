use Rattle.yaml_subset.proofs.FaultLemmas.{text_either}
use Rattle.yaml_subset.proofs.laws.a_text_has_nodes_or_a_fault.Goals as goal

pub returns : goal.returns
returns c = text_either
