-- Objectives over values (OpenSLO v1: where the indicator of an SLO has a `thresholdMetric`, each
-- objective has `op` and `value`).
use Rattle.std.specs.Prelude.{ℕ, Bool, false, ◌||◌, cond, is_none, List, ◌++◌, Option, Some, None}
use Rattle.std.specs.Prelude.{option_map, option_and_then}
use Rattle.std.specs.List.{position_from}
use Rattle.object_terms.specs.declared.kind.Kind.TheVariants as kinds
use Rattle.object_terms.specs.declared.object.Object.{Object}
use Rattle.object_terms.specs.declared.sli.Sli.{Sli}
use Rattle.object_terms.specs.declared.slo.Slo.{Slo}
use Rattle.object_terms.specs.declared.objective.Objective.{Objective}
use Rattle.object_terms.specs.Sli.{is_threshold, sli_in}
use Rattle.object_terms.specs.Slo.{slo_in}
use Rattle.catalog_terms.specs.declared.needs_op.NeedsOp.{NeedsOp}
use Rattle.catalog_terms.specs.Keys.{member_of}
use Rattle.catalog_terms.specs.References.{first_given}

-- the indicator of that name, and whether one that is there gives values
abbrev pub sli_named : List Object → List ℕ → Option Sli
sli_named members name = option_and_then (λ o. sli_in o.body) (member_of members kinds.Sli name)

abbrev pub gives_values : Option Sli → Bool
gives_values None = false
gives_values (Some sli) = is_threshold sli.metric

-- an objective that no value can be compared with
abbrev pub lacks_op : Objective → Bool
lacks_op objective = is_none objective.op || is_none objective.value

-- the first such objective of an SLO over values, numbered from 0
abbrev pub lacking_in : List Object → Option Slo → Option ℕ
lacking_in members None = None
lacking_in members (Some slo) = cond (gives_values (sli_named members slo.indicator))
    (position_from lacks_op 0 slo.objectives) None

abbrev pub needing_op : List Object → Object → Option NeedsOp
needing_op members o =
    option_map (λ n. record { slo = o.name; objective = n }) (lacking_in members (slo_in o.body))

-- The first objective that needs `op` or `value`: of the SLOs of the objects in their order, then
-- of those of the catalog in its order.
abbrev pub first_needing_op : List Object → List Object → Option NeedsOp
first_needing_op members objects = first_given (needing_op members) (objects ++ members)
