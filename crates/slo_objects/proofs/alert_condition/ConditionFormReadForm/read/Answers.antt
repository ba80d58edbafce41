use Rattle.std.proofs.Common.{sym}
use Rattle.object_terms.specs.AlertCondition.{condition}
use Rattle.object_fields.proofs.ReadLemmas.{reads_behind}
use Rattle.slo_objects.proofs.alert_condition.ConditionFormReadForm.read.Goals as goal

-- line by line
pub returns : goal.returns
unfolding condition
returns c =
    rw (sym c.in-Some.ensures)
    (reads_behind _ _ _ _ _ _ _ c.in_ok-kind.ensures
    (reads_behind _ _ _ _ _ _ _ c.in_ok-op.ensures
    (reads_behind _ _ _ _ _ _ _ c.in_ok-threshold.ensures
    (reads_behind _ _ _ _ _ _ _ c.in_ok-lookback_window.ensures
    (reads_behind _ _ _ _ _ _ _ c.in_ok-alert_after.ensures
    c.close_with.ensures)))))
