-- The alerts of bindings: their rules, and their states at a minute (Site Reliability Workbook,
-- 'Alerting on SLOs').
use Rattle.std.specs.Prelude.{ℕ, ◌-◌, ◌==◌, ◌&&◌, Bool, true, false, cond, List, map, slice_get}
use Rattle.std.specs.Prelude.{Option, Some, None, option_map, option_and_then, unwrap_or}
use Rattle.std.specs.List.{list_any}
use Rattle.std.specs.Str.{bytes_eq}
use Rattle.exact_fraction.specs.declared.Op.TheVariants.{Gte}
use Rattle.burn_core.specs.declared.AlertRule.{AlertRule}
use Rattle.burn_core.specs.declared.AlertRule.TheVariants.{Single, Page, Ticket}
use Rattle.burn_core.specs.declared.Flags.{Flags}
use Rattle.burn_core.specs.declared.State.{State}
use Rattle.burn_core.specs.declared.State.TheVariants.{Quiet}
use Rattle.burn_core.specs.Alert.{lookback_of, wait_of}
use Rattle.burn_core.specs.Condition.{condition}
use Rattle.burn_core.specs.Timeline.{is_active, state_of}
use Rattle.object_terms.specs.declared.kind.Kind.TheVariants as kinds
use Rattle.object_terms.specs.declared.Object.{Object}
use Rattle.object_terms.specs.declared.AlertAfter.{AlertAfter}
use Rattle.object_terms.specs.declared.AlertCondition.{AlertCondition}
use Rattle.object_terms.specs.declared.alert_condition.Condition.{Condition}
use Rattle.object_terms.specs.declared.AlertPolicy.{AlertPolicy}
use Rattle.object_terms.specs.AlertCondition.{condition_in}
use Rattle.catalog_terms.specs.declared.Binding.{Binding}
use Rattle.catalog_terms.specs.Bindings.{bindings, policy_named}
use Rattle.catalog_terms.specs.Keys.{member_of}
use Rattle.catalog_terms.specs.References.{names_in, page, ticket}
use Rattle.window_sums.specs.Slices.{width_of}
use Rattle.office_history.specs.declared.measure.Measure.{Measure}
use Rattle.office_history.specs.Counts.{Samples, leaf_at, sum_between}
use Rattle.office_history.specs.Objectives.{measure_at}
use Rattle.slo_duration.specs.Minutes.{minutes_of}

-- the rule of a condition; an omitted `op` is `gte`, an omitted `alertAfter` is `0m`
abbrev pub rule_of : Condition → AlertRule
rule_of c = Single (unwrap_or c.op Gte) c.threshold.rate (minutes_of c.lookback_window.span)
    (unwrap_or (option_map (λ (a : AlertAfter). minutes_of a.span) c.alert_after) 0)

abbrev pub condition_named : List Object → List ℕ → Option AlertCondition
condition_named members name =
    option_and_then (λ o. condition_in o.body) (member_of members kinds.AlertCondition name)

abbrev pub first_condition : List Object → AlertPolicy → Option AlertCondition
first_condition members policy =
    option_and_then (condition_named members) (slice_get (names_in policy.conditions) 0)

-- the rule of the policy of a name, where it has a condition
abbrev pub rule_named : List Object → List ℕ → Option AlertRule
rule_named members name =
    cond (bytes_eq name page) (Some Page)
    (cond (bytes_eq name ticket) (Some Ticket)
    (option_map (λ (c : AlertCondition). rule_of c.condition)
    (option_and_then (first_condition members) (policy_named members name))))

-- which changes a policy tells; of those that it omits, breaching alone
abbrev pub flags_of : Option AlertPolicy → Flags
flags_of None = record { breaching = true; resolved = true; no_data = false }
flags_of (Some policy) = record {
  breaching = unwrap_or policy.alert_when_breaching true;
  resolved = unwrap_or policy.alert_when_resolved false;
  no_data = unwrap_or policy.alert_when_no_data false;
}

abbrev pub flags_named : List Object → List ℕ → Flags
flags_named members name = flags_of (policy_named members name)

-- An alert that is watched: an objective, and the rule of a policy.
pub record Watch : Type 0 where
  pub measure : Measure
  pub rule : AlertRule

abbrev pub watch_with : Option Measure → Option AlertRule → Option Watch
watch_with (Some measure) (Some rule) = Some (record { measure = measure; rule = rule })
watch_with _ _ = None

-- whether two bindings are of one SLO, objective and policy
abbrev pub same_binding : Binding → Binding → Bool
same_binding a b =
    bytes_eq a.slo b.slo && (a.objective == b.objective && bytes_eq a.policy b.policy)

-- what a binding watches
abbrev pub watch_of : List Object → Binding → Option Watch
watch_of members b = watch_with (measure_at members b.slo b.objective) (rule_named members b.policy)

-- what a binding watches, where it is one of the catalog's
abbrev pub watched : List Object → Binding → Option Watch
watched members b = cond (list_any (same_binding b) (bindings members)) (watch_of members b) None

-- the condition of an alert at a minute; it holds at no minute below the origin
abbrev pub holds_at : ℕ → Samples → Watch → ℕ → Bool
holds_at origin s w minute = condition w.rule w.measure.target origin (width_of w.measure.method)
    (leaf_at s w.measure) minute

-- an alert is active at a minute where its condition holds there and at each of the minutes before
-- it for which it has to wait
abbrev pub is_watch_active : ℕ → Samples → Watch → ℕ → Bool
is_watch_active origin s w minute = is_active (wait_of w.rule) (holds_at origin s w) minute

-- what was counted in the lookback that ends at a minute
abbrev pub den_before : Samples → Watch → ℕ → ℕ
den_before s w minute = (sum_between s w.measure (minute - lookback_of w.rule) minute).den

-- the state of an alert at a minute
abbrev pub state_at : ℕ → Samples → Watch → ℕ → State
state_at origin s w minute = state_of (is_watch_active origin s w minute) (den_before s w minute)

abbrev pub state_if : ℕ → Samples → ℕ → Option Watch → State
state_if origin s minute None = Quiet
state_if origin s minute (Some w) = state_at origin s w minute

-- each binding with its state at a minute
abbrev pub states_at : ℕ → List Object → Samples → ℕ → List (Binding × State)
states_at origin members s minute =
    map (λ b. (b, state_if origin s minute (watch_of members b))) (bindings members)
