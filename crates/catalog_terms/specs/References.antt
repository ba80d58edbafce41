-- What objects refer to (OpenSLO v1: `metricSourceRef`, `service`, `indicatorRef`,
-- `alertPolicyRef`, `conditionRef`, `targetRef`).
use Rattle.std.specs.Prelude.{◌≡◌, ℕ, Bool, true, ◌&&◌, ◌||◌, not, is_some, codes, List, [], ◌∷◌}
use Rattle.std.specs.Prelude.{◌++◌, Option, None, map, find, filter_map, unwrap_or}
use Rattle.std.specs.Option.{option_or}
use Rattle.std.specs.List.{list_any, AllByRecursion}
use Rattle.std.specs.Str.{bytes_eq}
use Rattle.object_terms.specs.declared.kind.Kind.{Kind}
use Rattle.object_terms.specs.declared.kind.Kind.TheVariants as kinds
use Rattle.object_terms.specs.declared.object.Object.{Object}
use Rattle.object_terms.specs.declared.object.Body.{Body}
use Rattle.object_terms.specs.declared.object.Body.TheVariants as bodies
use Rattle.object_terms.specs.declared.sli.Metric.{Metric}
use Rattle.object_terms.specs.declared.sli.Metric.TheVariants as metrics
use Rattle.object_terms.specs.declared.sli.MetricSource.{MetricSource}
use Rattle.object_terms.specs.declared.alert_policy.AlertPolicy.{AlertPolicy}
use Rattle.object_terms.specs.declared.slo.Slo.{Slo}
use Rattle.object_terms.specs.declared.sli.Ratio.{Ratio}
use Rattle.object_terms.specs.declared.sli.Ratio.TheVariants as ratios
use Rattle.object_terms.specs.Sli.{source_of}
use Rattle.catalog_terms.specs.declared.reference.Reference.{Reference}
use Rattle.catalog_terms.specs.Keys.{is_kind, member_of}

-- the names of an omitted list are none
abbrev pub names_in : Option (List (List ℕ)) → List (List ℕ)
names_in names = unwrap_or names []

-- the sources of a metric, in the order of its fields: `raw`, `total`, `good`, `bad`
abbrev pub sources_of_ratio : Ratio → List MetricSource
sources_of_ratio (ratios.Raw raw raw_type) = raw ∷ []
sources_of_ratio (ratios.Counts total events) = total ∷ source_of events ∷ []

abbrev pub sources_of : Metric → List MetricSource
sources_of (metrics.Threshold source) = source ∷ []
sources_of (metrics.Ratio ratio) = sources_of_ratio ratio.ratio

-- the data sources that a metric's sources name, where they name one
abbrev pub data_sources : List MetricSource → List (List ℕ)
data_sources sources = filter_map (λ s. s.metric_source_ref) sources

-- references of an object to the objects of a kind that it names
abbrev pub references_to : Object → Kind → List (List ℕ) → List Reference
references_to o kind names =
    map (λ n. record { from_kind = o.kind; from_name = o.name; kind = kind; name = n }) names

-- an SLO's are to its service, its indicator and its alert policies; a policy's to its conditions
-- and its targets
abbrev pub references_of_slo : (Kind → List (List ℕ) → List Reference) → Slo → List Reference
references_of_slo to slo = to kinds.Service (slo.service ∷ [])
    ++ (to kinds.Sli (slo.indicator ∷ []) ++ to kinds.AlertPolicy (names_in slo.alert_policies))

abbrev pub references_of_policy : (Kind → List (List ℕ) → List Reference) → AlertPolicy
    → List Reference
references_of_policy to policy = to kinds.AlertCondition (names_in policy.conditions)
    ++ to kinds.AlertNotificationTarget (names_in policy.notification_targets)

abbrev pub references_in : (Kind → List (List ℕ) → List Reference) → Body → List Reference
references_in to (bodies.Sli sli) = to kinds.DataSource (data_sources (sources_of sli.metric))
references_in to (bodies.Slo slo) = references_of_slo to slo
references_in to (bodies.AlertPolicy policy) = references_of_policy to policy
references_in to (bodies.DataSource source) = []
references_in to (bodies.Service service) = []
references_in to (bodies.AlertCondition condition) = []
references_in to (bodies.AlertNotificationTarget target) = []

-- The references of an object, in the order of its fields.
abbrev pub references : Object → List Reference
references o = references_in (references_to o) o.body

-- The policies of the Site Reliability Workbook ('Alerting on SLOs') are always there, and no
-- object defines them.
abbrev pub page : List ℕ
page = codes "workbook-page"

abbrev pub ticket : List ℕ
ticket = codes "workbook-ticket"

abbrev pub is_built_in : List ℕ → Bool
is_built_in name = bytes_eq name page || bytes_eq name ticket

-- A reference names a member. One to an alert policy, which stands in an SLO's `alertPolicies`
-- alone, may name a built-in policy.
abbrev pub is_built_in_policy : Reference → Bool
is_built_in_policy r = is_kind r.kind kinds.AlertPolicy && is_built_in r.name

abbrev pub is_resolved : List Object → Reference → Bool
is_resolved members r = is_some (member_of members r.kind r.name) || is_built_in_policy r

-- what the first of the items gives that gives something
abbrev pub first_given : {A B : Type 0} → (A → Option B) → List A → Option B
first_given f [] = None
first_given f (x ∷ xs) = option_or (f x) (first_given f xs)

-- The first reference of the objects that isn't resolved, in the order of the objects and
-- of their fields.
abbrev pub unresolved_of : List Object → Object → Option Reference
unresolved_of members o = find (λ r. not (is_resolved members r)) (references o)

abbrev pub first_unresolved : List Object → List Object → Option Reference
first_unresolved members objects = first_given (unresolved_of members) objects

-- whether a reference is to that kind and name, and whether an object has one
abbrev pub is_to : Kind → List ℕ → Reference → Bool
is_to kind name r = is_kind r.kind kind && bytes_eq r.name name

abbrev pub refers_to : Kind → List ℕ → Object → Bool
refers_to kind name o = list_any (is_to kind name) (references o)

-- The first member that refers to that kind and name.
abbrev pub first_referrer : List Object → Kind → List ℕ → Option Object
first_referrer members kind name = find (refers_to kind name) members

-- A list of objects is legal where each reference of each of them is resolved among them.
abbrev pub IsResolvedIn : List Object → Object → Type 0
IsResolvedIn members o = AllByRecursion (λ r. is_resolved members r ≡ true) (references o)

abbrev pub IsLegal : List Object → Type 0
IsLegal members = AllByRecursion (IsResolvedIn members) members
