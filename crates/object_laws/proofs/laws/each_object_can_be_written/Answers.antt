use Rattle.object_laws.proofs.LawFitDocument.{each_fits, texts_stand}
use Rattle.object_laws.proofs.laws.each_object_can_be_written.Goals as goal

pub returns-clause-fits : goal.returns-clause-fits
returns-clause-fits c = each_fits

pub returns-clause-stands : goal.returns-clause-stands
returns-clause-stands c = texts_stand c.written_text_reads_back.ensures.stands
