use Rattle.std.proofs.Common.{sym}
use Rattle.object_terms.specs.Sli.{ratio_metric}
use Rattle.object_fields.proofs.ReadLemmas.{reads_behind}
use Rattle.slo_objects.proofs.sli.RatioFormReadForm.read.Goals as goal

pub returns-in-Some-2 : goal.returns-in-Some-2
unfolding ratio_metric
returns-in-Some-2 c =
    rw (sym c.in-Some.ensures)
    (reads_behind _ _ _ _ _ _ _ c.in_ok-counter.ensures
    (reads_behind _ _ _ _ _ _ _ (rw c.in-Some-2.is at c.in_ok-raw.ensures)
    c.raw_ratio_of.ensures))

pub returns-in-None : goal.returns-in-None
unfolding ratio_metric
returns-in-None c =
    rw (sym c.in-Some.ensures)
    (reads_behind _ _ _ _ _ _ _ c.in_ok-counter.ensures
    (reads_behind _ _ _ _ _ _ _ (rw c.in-None.is at c.in_ok-raw.ensures)
    c.counted_ratio_of.ensures))
