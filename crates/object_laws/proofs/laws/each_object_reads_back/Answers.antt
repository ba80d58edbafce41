use Rattle.object_laws.proofs.LawDocument.{each_again}
use Rattle.object_laws.proofs.laws.each_object_reads_back.Goals as goal

pub returns : goal.returns
returns c = each_again
