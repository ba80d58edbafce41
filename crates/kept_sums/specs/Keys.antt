-- Which sums are an objective's, as a test.
use Rattle.std.specs.Prelude.{◌&&◌, ◌||◌, ◌==◌, ℕ, Bool, false, List, filter, true}
use Rattle.std.specs.Prelude.{if◌then◌else◌}
use Rattle.std.specs.List.{list_any}
use Rattle.std.specs.Str.{bytes_eq}
use Rattle.exact_fraction.specs.declared.Op.{Op}
use Rattle.exact_fraction.specs.declared.Op.TheVariants.{Gt, Gte, Lt, Lte}
use Rattle.slice_method.specs.declared.Method.{Method}
use Rattle.slice_method.specs.declared.Method.TheVariants.{Occurrences, RatioTimeslices, Timeslices}
use Rattle.slice_method.specs.declared.Reading.{Reading}
use Rattle.slice_method.specs.declared.Reading.TheVariants.{Bad, Good, RawFailure, RawSuccess}
use Rattle.slice_method.specs.declared.Reading.TheVariants.{Threshold}
use Rattle.office_history.specs.declared.Measure.{Measure}
use Rattle.kept_sums.specs.Objectives.{KeptObjectives}
use Rattle.kept_sums.specs.declared.kept.ObjectiveSums.{ObjectiveSums}

-- readings and operators, numbered
abbrev pub reading_number : Reading → ℕ
reading_number Good = 0
reading_number Bad = 1
reading_number Threshold = 2
reading_number RawSuccess = 3
reading_number RawFailure = 4

abbrev pub op_number : Op → ℕ
op_number Lte = 0
op_number Gte = 1
op_number Lt = 2
op_number Gt = 3

-- two methods are one
abbrev pub is_method : Method → Method → Bool
is_method Occurrences Occurrences = true
is_method (Timeslices a t) (Timeslices b u) = (a == b) && (t == u)
is_method (RatioTimeslices a) (RatioTimeslices b) = a == b
is_method _ _ = false

-- two objectives count the same by the key of their sums: by that of pooled ones their SLOs may
-- differ
abbrev pub is_alike : Bool → Measure → Measure → Bool
is_alike pool a b =
    (((((pool || bytes_eq a.slo b.slo) && bytes_eq a.sli b.sli)
    && (reading_number a.reading == reading_number b.reading))
    && (op_number a.op == op_number b.op)) && (a.value == b.value)) && is_method a.method b.method

-- the sums that are kept under the key of an objective
abbrev pub alike_in : Bool → List ObjectiveSums → Measure → List ObjectiveSums
alike_in pool kept m = filter (λ (k : ObjectiveSums). is_alike pool k.measure m) kept

-- the sums of an objective: those of its SLO, and where there are none, pooled ones
abbrev pub sums_for : KeptObjectives → Measure → List ObjectiveSums
sums_for kept m =
    if list_any (λ (k : ObjectiveSums). is_alike false k.measure m) kept.own
    then alike_in false kept.own m else alike_in true kept.pooled m
