use Rattle.object_terms.specs.Sli.{raw_ratio}
use Rattle.object_fields.proofs.ReadLemmas.{reads_behind}
use Rattle.slo_objects.proofs.sli.raw_ratio_of.Goals as goal

-- line by line
pub returns : goal.returns
unfolding raw_ratio
returns c =
    (reads_behind _ _ _ _ _ _ _ c.in-Ok.ensures
    c.close_with.ensures)
