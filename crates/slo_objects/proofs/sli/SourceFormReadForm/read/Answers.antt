use Rattle.std.proofs.Common.{sym}
use Rattle.object_terms.specs.Sli.{source_map}
use Rattle.object_fields.proofs.ReadLemmas.{reads_behind}
use Rattle.slo_objects.proofs.sli.SourceFormReadForm.read.Goals as goal

-- line by line
pub returns : goal.returns
unfolding source_map
returns c =
    rw (sym c.in-Some.ensures)
    (reads_behind _ _ _ _ _ _ _ c.in_ok-source.ensures
    c.close_with.ensures)
