use Rattle.object_laws.proofs.RangeDocuments.{windows}
use Rattle.object_laws.proofs.laws.windows_are_in_range.Goals as goal

pub returns : goal.returns
returns c = windows c.each_object_reads_back.ensures
