use Rattle.std.proofs.Common.{sym}
use Rattle.object_terms.specs.Document.{document}
use Rattle.object_fields.proofs.ReadLemmas.{reads_behind}
use Rattle.slo_objects.proofs.document.DocumentFormReadForm.read.Goals as goal

-- line by line
pub returns : goal.returns
unfolding document
returns c =
    rw (sym c.in-Some.ensures)
    (reads_behind _ _ _ _ _ _ _ c.in_ok-_version.ensures
    (reads_behind _ _ _ _ _ _ _ c.in_ok-kind.ensures
    (reads_behind _ _ _ _ _ _ _ c.in_ok-metadata.ensures
    (reads_behind _ _ _ _ _ _ _ c.in-Ok.ensures
    (rw c.object_with-object.ensures at c.close_with.ensures)))))
