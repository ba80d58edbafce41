-- What ties the fields of objectives and windows, by their tables.
use Rattle.std.proofs.Common.{◌≡◌, ℕ, zero, suc, ◌*◌, ◌<◌, Bool, true, false, ◌||◌, Option, Some}
use Rattle.std.proofs.Common.{None, length, refl, arith}
use Rattle.std.specs.Prelude.{codes, nat_le, IfSome, IsNone}
use Rattle.std.proofs.lemmas.Bool.{leb-true, and_parts}
use Rattle.std.proofs.lemmas.Option.{IfSome_then}
use Rattle.std.proofs.lemmas.List.Elements.{All-from_recursion}
use Rattle.yaml_terms.specs.Tree.{Entries}
use Rattle.slo_duration.specs.Unit.{unit_minutes}
use Rattle.slo_duration.specs.declared.Unit.{Unit as TimeUnit}
use Rattle.slo_duration.specs.declared.Unit.TheVariants as units
use Rattle.object_terms.specs.declared.Slo.{Slo}
use Rattle.object_terms.specs.declared.WindowLength.{WindowLength}
use Rattle.object_terms.specs.declared.slo.BudgetingMethod.{BudgetingMethod}
use Rattle.object_terms.specs.declared.Rule.TheVariants as rules
use Rattle.object_terms.specs.Form.{Form, map_with, single}
use Rattle.object_terms.specs.Inline.{reference_written}
use Rattle.object_terms.specs.Ranges.{slice_target_range}
use Rattle.object_terms.specs.Scalars.{number}
use Rattle.object_terms.specs.Slo.{calendar, is_rolling, is_calendar_unit, time_window}
use Rattle.object_terms.specs.Slo.{has_slice_target, has_slices, slice_width, objective}
use Rattle.object_terms.specs.Slo.{is_objective_count, objective_item, objectives, policy_item}
use Rattle.object_terms.specs.Slo.{is_policy_count, policies, slo}
use Rattle.zone_calendar.specs.Starts.{IsCalendarUnit, IsCalendarStep}
use Rattle.object_laws.specs.Ranges.{IsObjective, HasObjectives, IsWindow}
use Rattle.object_laws.proofs.RangeReading.{Reads, Makes, map_reads}
use Rattle.object_laws.proofs.RangeLines.{required_gave, optional_gave, required_where_gave}
use Rattle.object_laws.proofs.RangeLines.{required_unless_gave, holding_gave, HasItems, list_reads}
use Rattle.object_laws.proofs.RangeLines.{single_reads}

abbrev Any : {A : Type 0} → A → Type 0
Any a = Unit {0}

any_read : {A : Type 0} (f : Form A) → Reads f Any
any_read f key t y e = tt

-- OBJECTIVES

objective_makes : (method : BudgetingMethod) (es : Entries)
    → Makes (objective method) es (IsObjective method)
unfolding objective
objective_makes method es = λ d _ o _ v _ t _ s est w ew. record {
  has_target = (required_where_gave Any (has_slice_target method) (codes "timeSliceTarget")
      (number slice_target_range) (any_read (number slice_target_range)) es s est).1;
  has_width = (required_where_gave Any (has_slices method) (codes "timeSliceWindow") slice_width
      (any_read slice_width) es w ew).1;
}

objective_reads : (method : BudgetingMethod)
    → Reads (map_with (objective method)) (IsObjective method)
objective_reads method = map_reads (objective method) (IsObjective method) (objective_makes method)

objectives_read : (method : BudgetingMethod)
    → Reads (objectives method) (HasItems (IsObjective method) is_objective_count)
objectives_read method = list_reads (IsObjective method) is_objective_count (objective_item method)
    (map_with (objective method)).write (λ listed before t y e. objective_reads method listed t y e)

policies_read : Reads policies (HasItems Any is_policy_count)
policies_read = list_reads Any is_policy_count policy_item
    (reference_written (codes "alertPolicyRef"))
    (λ listed before t y e. tt)

-- WINDOWS

calendar_unit : (unit : TimeUnit) → is_calendar_unit unit ≡ true → IsCalendarUnit unit
calendar_unit units.Minute e = cc
calendar_unit units.Hour e = cc
calendar_unit units.Day e = tt
calendar_unit units.Week e = tt
calendar_unit units.Month e = tt
calendar_unit units.Quarter e = tt
calendar_unit units.Year e = tt

some_units : (count minutes : ℕ) → 0 < count * minutes → 0 < count
some_units zero minutes h = absurd (omega arith)
some_units (suc count) minutes h = omega arith

window_step : (w : WindowLength) → is_calendar_unit w.span.unit ≡ true → IsCalendarStep w.span
window_step w e = record {
  unit = calendar_unit w.span.unit e;
  some = some_units w.span.count (unit_minutes w.span.unit) w.some;
  short = w.short;
}

step_where : {A : Type 0} (w : WindowLength) (o : Option A) (rolling : Bool)
    → (rolling || is_calendar_unit w.span.unit) ≡ true → (rolling ≡ true → IsNone o)
    → IfSome o (λ _. IsCalendarStep w.span)
step_where w None rolling e n = tt
step_where w (Some a) true e n = absurd (let f : ⊥ = cc (n refl) in f)
step_where w (Some a) false e n = window_step w e

window_makes : (es : Entries) → Makes time_window es IsWindow
unfolding time_window
window_makes es = λ d _ r _ u eu c ec.
    let holds = holding_gave (is_rolling r.1 || is_calendar_unit d.1.span.unit) (codes "duration")
    rules.OutOfRange es u eu in
    let there = required_unless_gave Any (is_rolling r.1) (codes "calendar") (map_with calendar)
    (any_read (map_with calendar)) es c ec in
    record {
      step = step_where d.1 c.1 (is_rolling r.1) holds there.1;
      has_calendar = there.0;
      has_none = there.1;
    }

-- SLOS

pub record IsSlo (s : Slo) : Type 0 where
  pub objectives : HasObjectives s
  pub window : IsWindow s.time_window

slo_makes : (es : Entries) → Makes slo es IsSlo
unfolding slo
slo_makes es = λ d _ s _ i _ w ew m _ o eo p ep.
    let window = required_gave IsWindow (codes "timeWindow") (single (map_with time_window))
    (single_reads IsWindow (map_with time_window) (map_reads time_window IsWindow window_makes))
    es w ew in
    let items = required_gave (HasItems (IsObjective m.1) is_objective_count) (codes "objectives")
    (objectives m.1) (objectives_read m.1) es o eo in
    let counts = and_parts (nat_le 1 (length o.1)) (nat_le (length o.1) 5) items.1 in
    let named = optional_gave (HasItems Any is_policy_count) (codes "alertPolicies") policies
    policies_read es p ep in
    record {
      objectives = record {
        some = leb-true 1 (length o.1) counts.0;
        few = leb-true (length o.1) 5 counts.1;
        each = All-from_recursion (IsObjective m.1) o.1 items.0;
        few_policies = IfSome_then p.1 named (λ names h. leb-true (length names) 10 h.1);
      };
      window = window;
    }

pub slo_reads : Reads (map_with slo) IsSlo
slo_reads = map_reads slo IsSlo slo_makes
