-- What ties the fields of what stands in documents (OpenSLO v1, SLO), and how many objectives and
-- policies there are. The ranges of single values are facts of their types.
use Rattle.std.specs.Prelude.{◌≡◌, ◌≤◌, true, false, All, length, IfSome, IsSome, IsNone}
use Rattle.slo_limits.specs.declared.TheConstants.{MAX_OBJECTIVES, MAX_POLICIES}
use Rattle.object_terms.specs.declared.Slo.{Slo}
use Rattle.object_terms.specs.declared.window.TimeWindow.{TimeWindow}
use Rattle.object_terms.specs.declared.slo.BudgetingMethod.{BudgetingMethod}
use Rattle.object_terms.specs.declared.objective.Objective.{Objective}
use Rattle.object_terms.specs.Slo.{has_slice_target, has_slices, is_rolling}
use Rattle.zone_calendar.specs.Starts.{IsCalendarStep}

-- An objective under a budgeting method: what the method wants of slices is there.
pub record IsObjective (method : BudgetingMethod) (o : Objective) : Type 0 where
  pub has_target : has_slice_target method ≡ true → IsSome o.time_slice_target
  pub has_width : has_slices method ≡ true → IsSome o.time_slice_window

-- An SLO has one to five objectives and at most ten policies.
pub record HasObjectives (slo : Slo) : Type 0 where
  pub some : 1 ≤ length slo.objectives
  pub few : length slo.objectives ≤ MAX_OBJECTIVES
  pub each : All (IsObjective slo.budgeting_method) slo.objectives
  pub few_policies : IfSome slo.alert_policies (λ policies. length policies ≤ MAX_POLICIES)

-- A window that isn't rolling has a calendar, whose starts can follow each other by its length.
pub record IsWindow (window : TimeWindow) : Type 0 where
  pub step : IfSome window.calendar (λ _. IsCalendarStep window.duration.span)
  pub has_calendar : is_rolling window.is_rolling ≡ false → IsSome window.calendar
  pub has_none : is_rolling window.is_rolling ≡ true → IsNone window.calendar
