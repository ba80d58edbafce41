-- Objectives over time (OpenSLO v1, SLO).
use Rattle.std.specs.Prelude.{ℕ, Bool, true, false, ◌&&◌, ◌||◌, cond, nat_le, List, [], ◌∷◌, Option}
use Rattle.std.specs.Prelude.{Some, None, Result, Ok, Err, codes, decimal, option_and_then}
use Rattle.yaml_terms.specs.Tree.{Tree}
use Rattle.yaml_terms.specs.Spelling.{word, quoted}
use Rattle.exact_fraction.specs.Digits.{is_number, number_within}
use Rattle.slo_duration.specs.declared.unit.Unit.{Unit as TimeUnit}
use Rattle.slo_duration.specs.declared.unit.Unit.TheVariants as units
use Rattle.slo_duration.specs.Minutes.{minutes_of}
use Rattle.slo_limits.specs.declared.TheConstants.{MAX_OBJECTIVES, MAX_POLICIES}
use Rattle.object_terms.specs.declared.fault.Rule.{Rule}
use Rattle.object_terms.specs.declared.fault.Rule.TheVariants as rules
use Rattle.object_terms.specs.declared.kind.Kind.TheVariants as kinds
use Rattle.object_terms.specs.declared.object.Body.{Body}
use Rattle.object_terms.specs.declared.object.Body.TheVariants as bodies
use Rattle.object_terms.specs.declared.ranges.SliceWidth.{SliceWidth}
use Rattle.object_terms.specs.declared.ranges.Target.{Target}
use Rattle.object_terms.specs.declared.slo.Slo.{Slo}
use Rattle.object_terms.specs.declared.window.TimeWindow.{TimeWindow}
use Rattle.object_terms.specs.declared.window.Calendar.{Calendar}
use Rattle.object_terms.specs.declared.slo.BudgetingMethod.{BudgetingMethod}
use Rattle.object_terms.specs.declared.slo.BudgetingMethod.TheVariants.{Occurrences, Timeslices}
use Rattle.object_terms.specs.declared.slo.BudgetingMethod.TheVariants.{RatioTimeslices}
use Rattle.object_terms.specs.declared.objective.Objective.{Objective}
use Rattle.object_terms.specs.Form.{Key, Answer, refused, on_some, Form, FieldTable, done, ◌of◌}
use Rattle.object_terms.specs.Form.{◌>>=◌, required, optional, required_where, required_unless}
use Rattle.object_terms.specs.Form.{holding, one_of, map_with, map_read, single, list_with, variant}
use Rattle.object_terms.specs.Form.{written_where, scalar_form, scalar_in, is_null, is_among}
use Rattle.object_terms.specs.Scalars.{description, text, name, zone_name, boolean, op, number}
use Rattle.object_terms.specs.Scalars.{percent, found_or, of_word, ranged}
use Rattle.object_terms.specs.Durations.{duration, duration_or_rule}
use Rattle.object_terms.specs.Ranges.{every_number, target_range, slice_target_range, width_in}
use Rattle.object_terms.specs.Ranges.{window_range}
use Rattle.object_terms.specs.Moments.{moment}
use Rattle.object_terms.specs.Inline.{inline_read, item_read, reference_written}
use Rattle.object_terms.specs.Sli.{sli_body}
use Rattle.object_terms.specs.AlertPolicy.{policy_body}
use Rattle.object_terms.specs.declared.keys.TheConstants.{DESCRIPTION, DISPLAY_NAME, OP, TARGET}
use Rattle.object_terms.specs.declared.keys.TheConstants.{TARGET_PERCENT, TIME_SLICE_TARGET}
use Rattle.object_terms.specs.declared.keys.TheConstants.{TIME_SLICE_WINDOW, VALUE, ALERT_POLICIES}
use Rattle.object_terms.specs.declared.keys.TheConstants.{ALERT_POLICY_REF, BUDGETING_METHOD}
use Rattle.object_terms.specs.declared.keys.TheConstants.{INDICATOR, INDICATOR_REF, OBJECTIVES}
use Rattle.object_terms.specs.declared.keys.TheConstants.{SERVICE, TIME_WINDOW, CALENDAR, DURATION}
use Rattle.object_terms.specs.declared.keys.TheConstants.{IS_ROLLING, START_TIME, TIME_ZONE}

-- `calendar`
unfoldable pub calendar : FieldTable Calendar
calendar = do
  start_time ← required START_TIME.now moment of λ c. c.start_time
  time_zone ← required TIME_ZONE.now zone_name of λ c. c.time_zone
  done (record { start_time = start_time; time_zone = time_zone })

-- an omitted `isRolling` is false
abbrev pub is_rolling : Option Bool → Bool
is_rolling None = false
is_rolling (Some rolling) = rolling

-- a calendar window lasts whole days, weeks, months, quarters or years
abbrev pub is_calendar_unit : TimeUnit → Bool
is_calendar_unit units.Minute = false
is_calendar_unit units.Hour = false
is_calendar_unit units.Day = true
is_calendar_unit units.Week = true
is_calendar_unit units.Month = true
is_calendar_unit units.Quarter = true
is_calendar_unit units.Year = true

-- the one item of `timeWindow`
unfoldable pub time_window : FieldTable TimeWindow
time_window = do
  duration ← required DURATION.now (duration window_range) of λ w. w.duration
  rolling ← optional IS_ROLLING.now boolean of λ w. w.is_rolling
  _ ← holding (is_rolling rolling || is_calendar_unit duration.span.unit) DURATION.now
      rules.OutOfRange of λ w. tt
  calendar ← required_unless (is_rolling rolling) CALENDAR.now (map_with calendar) of
      λ w. w.calendar
  done (record { duration = duration; is_rolling = rolling; calendar = calendar })

-- the words of `budgetingMethod`
abbrev pub method_word : BudgetingMethod → Key
method_word Occurrences = codes "Occurrences"
method_word Timeslices = codes "Timeslices"
method_word RatioTimeslices = codes "RatioTimeslices"

abbrev pub all_methods : List BudgetingMethod
all_methods = Occurrences ∷ Timeslices ∷ RatioTimeslices ∷ []

unfoldable pub method_value : Key → Result BudgetingMethod Rule
method_value bytes = found_or rules.BadWord (of_word method_word all_methods bytes)

abbrev pub method : Form BudgetingMethod
method = scalar_form rules.BadWord method_value (λ m. word (method_word m))

-- the methods that want a target, and a width, for slices
abbrev pub has_slice_target : BudgetingMethod → Bool
has_slice_target Occurrences = false
has_slice_target Timeslices = true
has_slice_target RatioTimeslices = false

abbrev pub has_slices : BudgetingMethod → Bool
has_slices Occurrences = false
has_slices Timeslices = true
has_slices RatioTimeslices = true

-- the width of a slice: a number of minutes, or a duration; it is written in minutes
unfoldable pub width_value : List ℕ → Result SliceWidth Rule
width_value bytes = cond (is_number bytes)
    (found_or rules.OutOfRange (option_and_then width_in (number_within 60 bytes)))
    (ranged (λ d. width_in (minutes_of d)) (duration_or_rule bytes))

abbrev pub slice_width : Form SliceWidth
slice_width = scalar_form rules.NotDuration width_value (λ w. word (decimal w.minutes))

abbrev pub target : Form Target
target = number target_range

abbrev pub is_target : Target → Bool
is_target t = true

-- an item of `objectives`
unfoldable pub objective : BudgetingMethod → FieldTable Objective
objective method = do
  display_name ← optional DISPLAY_NAME.now text of λ o. o.display_name
  op ← optional OP.now op of λ o. o.op
  value ← optional VALUE.now (number every_number) of λ o. o.value
  target ← one_of TARGET.now target TARGET_PERCENT.now percent is_target of λ o. o.target
  time_slice_target ← required_where (has_slice_target method) TIME_SLICE_TARGET.now
      (number slice_target_range) of λ o. o.time_slice_target
  time_slice_window ← required_where (has_slices method) TIME_SLICE_WINDOW.now slice_width of λ o.
      o.time_slice_window
  done (record {
    display_name = display_name;
    op = op;
    value = value;
    target = target;
    time_slice_target = time_slice_target;
    time_slice_window = time_slice_window;
  })

abbrev pub is_objective_count : ℕ → Bool
is_objective_count n = nat_le 1 n && nat_le n MAX_OBJECTIVES

abbrev pub objective_item : BudgetingMethod → Key → List Objective → Tree → Answer Objective
objective_item method listed before t = (map_with (objective method)).read listed t

abbrev pub objectives : BudgetingMethod → Form (List Objective)
objectives method =
    list_with is_objective_count (objective_item method) (map_with (objective method)).write

-- an inline indicator, which is taken out, or the name of one; written as a reference
abbrev pub inline_indicator : Form (List ℕ)
inline_indicator = record {
  read = λ key t. map_read (inline_read kinds.Sli sli_body) key t;
  write = quoted;
}

abbrev pub is_inline : List ℕ → Bool
is_inline n = false

-- an item of `alertPolicies`: a reference, an inline policy, or a name; none is named twice
abbrev pub unrepeated : Key → List Key → Answer Key → Answer Key
unrepeated listed before (Ok p) = cond (is_among before p.1) (refused listed rules.Repeated) (Ok p)
unrepeated listed before (Err f) = Err f

abbrev pub policy_map : Key → Tree → Answer Key
policy_map listed t =
    map_read (item_read ALERT_POLICY_REF.now kinds.AlertPolicy policy_body) listed t

abbrev pub policy_form : Key → Tree → Answer Key
policy_form listed t = cond (is_null t) (refused listed rules.BadName)
    (on_some (policy_map listed t) (λ _. name.read listed t) (scalar_in t))

abbrev pub policy_item : Key → List Key → Tree → Answer Key
policy_item listed before t = unrepeated listed before (policy_form listed t)

abbrev pub is_policy_count : ℕ → Bool
is_policy_count n = nat_le n MAX_POLICIES

abbrev pub policies : Form (List Key)
policies = list_with is_policy_count policy_item (reference_written ALERT_POLICY_REF.now)

-- `spec`
unfoldable pub slo : FieldTable Slo
slo = do
  description ← optional DESCRIPTION.now description of λ s. s.description
  service ← required SERVICE.now name of λ s. s.service
  indicator ← one_of INDICATOR.now inline_indicator INDICATOR_REF.now name is_inline of
      λ s. s.indicator
  time_window ← required TIME_WINDOW.now (single (map_with time_window)) of λ s. s.time_window
  method ← required BUDGETING_METHOD.now method of λ s. s.budgeting_method
  objectives ← required OBJECTIVES.now (objectives method) of λ s. s.objectives
  alert_policies ← optional ALERT_POLICIES.now policies of λ s. s.alert_policies
  done (record {
    description = description;
    service = service;
    indicator = indicator;
    time_window = time_window;
    budgeting_method = method;
    objectives = objectives;
    alert_policies = alert_policies;
  })

-- the object's body
abbrev pub slo_in : Body → Option Slo
slo_in (bodies.Slo s) = Some s
slo_in _ = None

abbrev pub slo_body : Form Body
slo_body = variant (map_with slo) bodies.Slo (written_where (map_with slo) slo_in)
