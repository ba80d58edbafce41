use Rattle.object_laws.proofs.LawEqual.{same_nodes, same_texts}
use Rattle.object_laws.proofs.laws.objects_with_one_text_are_one.Goals as goal

pub returns-clause-nodes : goal.returns-clause-nodes
returns-clause-nodes c = same_nodes

pub returns-clause-texts : goal.returns-clause-texts
returns-clause-texts c = same_texts c.written_text_reads_back.ensures.told_apart
