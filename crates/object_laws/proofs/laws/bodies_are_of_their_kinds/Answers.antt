use Rattle.object_laws.proofs.RangeDocuments.{kinds_of}
use Rattle.object_laws.proofs.laws.bodies_are_of_their_kinds.Goals as goal

pub returns : goal.returns
returns c = kinds_of c.each_object_reads_back.ensures
