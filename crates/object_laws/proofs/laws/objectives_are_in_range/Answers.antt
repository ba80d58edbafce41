use Rattle.object_laws.proofs.RangeDocuments.{objectives}
use Rattle.object_laws.proofs.laws.objectives_are_in_range.Goals as goal

pub returns : goal.returns
returns c = objectives c.each_object_reads_back.ensures
