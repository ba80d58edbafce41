-- What an objective of an SLO counts, and what it aims at (OpenSLO v1, SLI and SLO).
use Rattle.std.specs.Prelude.{ℕ, List, [], map, slice_get, Option, Some, None, option_map}
use Rattle.std.specs.Prelude.{option_and_then, unwrap_or}
use Rattle.exact_fraction.specs.declared.Op.TheVariants.{Gte}
use Rattle.slice_method.specs.declared.Reading.{Reading}
use Rattle.slice_method.specs.declared.Method.{Method}
use Rattle.slice_method.specs.declared.Method.TheVariants as methods
use Rattle.object_terms.specs.declared.kind.Kind.TheVariants as kinds
use Rattle.object_terms.specs.declared.Object.{Object}
use Rattle.object_terms.specs.declared.Sli.{Sli}
use Rattle.object_terms.specs.declared.SliceTarget.{SliceTarget}
use Rattle.object_terms.specs.declared.SliceWidth.{SliceWidth}
use Rattle.object_terms.specs.declared.Slo.{Slo}
use Rattle.object_terms.specs.declared.slo.BudgetingMethod.{BudgetingMethod}
use Rattle.object_terms.specs.declared.slo.BudgetingMethod.TheVariants as ways
use Rattle.object_terms.specs.declared.objective.Objective.{Objective}
use Rattle.object_terms.specs.Slo.{slo_in}
use Rattle.catalog_terms.specs.Keys.{member_of}
use Rattle.catalog_terms.specs.NeedsOp.{sli_named}
use Rattle.office_history.specs.Readings.{reading_of}
use Rattle.office_history.specs.declared.measure.Measure.{Measure}

-- the reading of the indicator of a name, where it is there
abbrev pub reading_named : List Object → List ℕ → Option Reading
reading_named members sli = option_map (λ (s : Sli). reading_of s.metric) (sli_named members sli)

-- the minutes of an objective's slices, one where it names none, and the ratio from which on a
-- slice is good, zero where it names none
abbrev pub slice_width : Objective → ℕ
slice_width objective =
    unwrap_or (option_map (λ (w : SliceWidth). w.minutes) objective.time_slice_window) 1

abbrev pub slice_target : Objective → ℕ
slice_target objective =
    unwrap_or (option_map (λ (t : SliceTarget). t.ratio) objective.time_slice_target) 0

-- the method of an objective, with the width of its slices and the ratio from which on one is good
abbrev pub method_of : BudgetingMethod → Objective → Method
method_of ways.Occurrences objective = methods.Occurrences
method_of ways.Timeslices objective =
    methods.Timeslices (slice_width objective) (slice_target objective)
method_of ways.RatioTimeslices objective = methods.RatioTimeslices (slice_width objective)

-- an objective over an indicator of this reading; an omitted `op` is `gte`
abbrev pub measure_of : List ℕ → Slo → Reading → Objective → Measure
measure_of name slo reading objective = record {
  slo = name;
  sli = slo.indicator;
  reading = reading;
  op = unwrap_or objective.op Gte;
  value = unwrap_or objective.value 0;
  method = method_of slo.budgeting_method objective;
  target = objective.target.ratio;
}

-- the SLO of a name, where it is there
abbrev pub slo_named : List Object → List ℕ → Option Slo
slo_named members name = option_and_then (λ o. slo_in o.body) (member_of members kinds.Slo name)

abbrev pub measures_with : List ℕ → Slo → Option Reading → List Measure
measures_with name slo None = []
measures_with name slo (Some reading) = map (measure_of name slo reading) slo.objectives

abbrev pub measures_of : List Object → List ℕ → Option Slo → List Measure
measures_of members name None = []
measures_of members name (Some slo) = measures_with name slo (reading_named members slo.indicator)

-- the objectives of the SLO of a name, in their order
abbrev pub measures_named : List Object → List ℕ → List Measure
measures_named members name = measures_of members name (slo_named members name)

-- the objective of this number of an SLO, from 0
abbrev pub measure_at : List Object → List ℕ → ℕ → Option Measure
measure_at members name number = slice_get (measures_named members name) number
