use Rattle.std.proofs.Common.{sym}
use Rattle.object_terms.specs.Sli.{metric_source}
use Rattle.object_fields.proofs.ReadLemmas.{reads_behind}
use Rattle.slo_objects.proofs.sli.MetricSourceFormReadForm.read.Goals as goal

-- line by line
pub returns : goal.returns
unfolding metric_source
returns c =
    rw (sym c.in-Some.ensures)
    (reads_behind _ _ _ _ _ _ _ c.in_ok-metric_source_ref.ensures
    (reads_behind _ _ _ _ _ _ _ c.in_ok-type_text.ensures
    (reads_behind _ _ _ _ _ _ _ c.in-Ok.ensures
    c.close_with.ensures)))
