use Rattle.catalog_measures.proofs.ByName.{windows_named}
use Rattle.catalog_measures.proofs.laws.named_windows_are_in_range.Goals as goal

pub returns : goal.returns
returns c = windows_named c.each_object_reads_back.ensures
