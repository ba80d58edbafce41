use Rattle.yaml_terms.proofs.ReadLemmas.{taken_of}
use Rattle.yaml_subset.proofs.read.read_documents.Goals as goal

pub returns-clause-taken : goal.returns-clause-taken
returns-clause-taken c = taken_of c.args.text.now c.read_checked.result c.read_checked.ensures.fault
