use Rattle.object_terms.specs.Sli.{counted_ratio}
use Rattle.object_fields.proofs.ReadLemmas.{reads_behind}
use Rattle.slo_objects.proofs.sli.counted_ratio_of.Goals as goal

-- line by line
pub returns : goal.returns
unfolding counted_ratio
returns c =
    (reads_behind _ _ _ _ _ _ _ c.in_ok-total.ensures
    (reads_behind _ _ _ _ _ _ _ c.in-Ok.ensures
    c.close_with.ensures))
