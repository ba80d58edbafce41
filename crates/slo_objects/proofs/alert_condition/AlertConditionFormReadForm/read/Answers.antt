use Rattle.std.proofs.Common.{sym}
use Rattle.object_terms.specs.AlertCondition.{alert_condition}
use Rattle.object_fields.proofs.ReadLemmas.{reads_behind}
use Rattle.slo_objects.proofs.alert_condition.AlertConditionFormReadForm.read.Goals as goal

-- line by line
pub returns : goal.returns
unfolding alert_condition
returns c =
    rw (sym c.in-Some.ensures)
    (reads_behind _ _ _ _ _ _ _ c.in_ok-description.ensures
    (reads_behind _ _ _ _ _ _ _ c.in-Ok.ensures
    (reads_behind _ _ _ _ _ _ _ c.in-Ok-required.ensures
    c.close_with.ensures)))
