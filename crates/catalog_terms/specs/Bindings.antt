-- Bindings: the alerts that are kept, each of an SLO's objective and a policy of the SLO that
-- has a condition.
use Rattle.std.specs.Prelude.{ℕ, ◌+◌, Bool, true, false, ◌||◌, not, List, [], ◌∷◌, ◌++◌, Option}
use Rattle.std.specs.Prelude.{Some, None, map, filter, flat_map, option_and_then}
use Rattle.object_terms.specs.declared.kind.Kind.TheVariants as kinds
use Rattle.object_terms.specs.declared.object.Object.{Object}
use Rattle.object_terms.specs.declared.alert_policy.AlertPolicy.{AlertPolicy}
use Rattle.object_terms.specs.declared.slo.Slo.{Slo}
use Rattle.object_terms.specs.declared.objective.Objective.{Objective}
use Rattle.object_terms.specs.AlertPolicy.{policy_in}
use Rattle.object_terms.specs.Slo.{slo_in}
use Rattle.catalog_terms.specs.declared.binding.Binding.{Binding}
use Rattle.catalog_terms.specs.Keys.{member_of}
use Rattle.catalog_terms.specs.References.{names_in, is_built_in}

-- an ordinary policy has a condition where its `conditions` has an item
abbrev pub is_empty : List (List ℕ) → Bool
is_empty [] = true
is_empty (n ∷ ns) = false

abbrev pub policy_named : List Object → List ℕ → Option AlertPolicy
policy_named members name =
    option_and_then (λ o. policy_in o.body) (member_of members kinds.AlertPolicy name)

abbrev pub lists_condition : Option AlertPolicy → Bool
lists_condition None = false
lists_condition (Some policy) = not (is_empty (names_in policy.conditions))

-- whether the policy of that name has a condition: a built-in policy has
abbrev pub has_condition : List Object → List ℕ → Bool
has_condition members name = is_built_in name || lists_condition (policy_named members name)

-- the bindings of an objective to policies, and of objectives that are numbered from n
abbrev pub bound : List ℕ → List (List ℕ) → ℕ → List Binding
bound slo policies n = map (λ p. record { slo = slo; objective = n; policy = p }) policies

abbrev pub bound_from : List ℕ → List (List ℕ) → ℕ → List Objective → List Binding
bound_from slo policies n [] = []
bound_from slo policies n (objective ∷ objectives) =
    bound slo policies n ++ bound_from slo policies (n + 1) objectives

-- the bindings of an SLO
abbrev pub bindings_in : List Object → List ℕ → Option Slo → List Binding
bindings_in members name None = []
bindings_in members name (Some slo) =
    bound_from name (filter (has_condition members) (names_in slo.alert_policies)) 0 slo.objectives

-- The bindings of a catalog: by SLO in its order, by objective from 0, by the policy's place
-- in the SLO.
abbrev pub bindings : List Object → List Binding
bindings members = flat_map (λ o. bindings_in members o.name (slo_in o.body)) members
