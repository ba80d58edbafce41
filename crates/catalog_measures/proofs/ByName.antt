-- The ranges of what the objects of a catalog give by their names.
use Rattle.std.proofs.Common.{◌≡◌, ℕ, zero, suc, ◌<◌, ◌≤◌, Bool, true, false, List, [], ◌∷◌, map}
use Rattle.std.proofs.Common.{Option, Some, None, All, cond, refl, subst, arith}
use Rattle.std.specs.Prelude.{slice_get, option_map, option_and_then, unwrap_or, IsSome}
use Rattle.std.specs.List.{AllByRecursion}
use Rattle.std.specs.Str.{bytes_eq}
use Rattle.std.proofs.Math.Nat.{one-dvd}
use Rattle.std.proofs.lemmas.Option.{option_and_then_some}
use Rattle.std.proofs.lemmas.List.Elements.{recursion_from_All}
use Rattle.burn_core.specs.declared.AlertRule.{AlertRule}
use Rattle.burn_core.specs.declared.AlertRule.TheVariants.{Page, Ticket}
use Rattle.burn_core.specs.Alert.{IsRule, lookback_of}
use Rattle.slo_limits.specs.declared.TheConstants.{MAX_LOOKBACK}
use Rattle.slice_method.specs.declared.Reading.{Reading}
use Rattle.object_terms.specs.declared.Kind.{Kind}
use Rattle.object_terms.specs.declared.Kind.TheVariants as kinds
use Rattle.object_terms.specs.declared.Object.{Object}
use Rattle.object_terms.specs.declared.Body.{Body}
use Rattle.object_terms.specs.declared.Slo.{Slo}
use Rattle.object_terms.specs.declared.slo.BudgetingMethod.{BudgetingMethod}
use Rattle.object_terms.specs.declared.slo.BudgetingMethod.TheVariants as budgeting
use Rattle.object_terms.specs.declared.objective.Objective.{Objective}
use Rattle.object_terms.specs.declared.AlertCondition.{AlertCondition}
use Rattle.object_terms.specs.declared.alert_condition.Condition.{Condition}
use Rattle.object_terms.specs.declared.AlertAfter.{AlertAfter}
use Rattle.object_terms.specs.declared.SliceTarget.{SliceTarget}
use Rattle.object_terms.specs.declared.SliceWidth.{SliceWidth}
use Rattle.object_terms.specs.Document.{IsOfDocument}
use Rattle.object_terms.specs.Slo.{slo_in}
use Rattle.catalog_terms.specs.Bindings.{policy_named}
use Rattle.catalog_terms.specs.Keys.{is_key, member_of}
use Rattle.catalog_terms.specs.References.{page, ticket}
use Rattle.window_sums.specs.Slices.{width_of}
use Rattle.office_history.specs.declared.Measure.{Measure}
use Rattle.office_history.specs.Alerts.{rule_of, first_condition, rule_named}
use Rattle.slo_duration.specs.Minutes.{minutes_of}
use Rattle.office_history.specs.Objectives.{reading_named, method_of, measure_of, slo_named}
use Rattle.office_history.specs.Objectives.{measures_with, measures_of, measure_at}
use Rattle.object_laws.specs.Ranges.{IsObjective, HasObjectives, IsWindow}
use Rattle.catalog_measures.specs.Measures.{HasSliceTarget, IsMeasure, IsSliceTarget, IsWidth}
use Rattle.object_laws.proofs.RangeTables.{IsSlo}
use Rattle.object_laws.proofs.RangeDocuments.{ReadsBack, slos}

-- OBJECTS BY THEIR NAMES

found_of : (P : Object → Type 0) (os : List Object) (kind : Kind) (name : List ℕ) (p : Object)
    → member_of os kind name ≡ Some p → AllByRecursion P os → P p
found_of P [] kind name p e all = absurd (let f : ⊥ = cc e in f)
found_of P (o ∷ os) kind name p e all =
    by (is_key kind name o) e (λ f. found_of P os kind name p f all.1)
  where
    by : (b : Bool) → cond b (Some o) (member_of os kind name) ≡ Some p
        → (member_of os kind name ≡ Some p → P p) → P p
    by true f rest = subst P (let same : o ≡ p = cc f in same) all.0
    by false f rest = rest f

named_of : {A : Type 0} (Q : A → Type 0) (part : Body → Option A)
    → ((o : Object) (a : A) → IsOfDocument o → part o.body ≡ Some a → Q a)
    → (members : List Object) (kind : Kind) (name : List ℕ) (a : A) → All IsOfDocument members
    → option_and_then (λ o. part o.body) (member_of members kind name) ≡ Some a → Q a
named_of Q part law members kind name a all e =
    option_and_then_some (λ o. part o.body) (member_of members kind name) a e
    (λ o found told. law o a (found_of IsOfDocument members kind name o found
    (recursion_from_All IsOfDocument members all)) told)

slo_of_name : ReadsBack → (members : List Object) (name : List ℕ) (s : Slo)
    → All IsOfDocument members → slo_named members name ≡ Some s → IsSlo s
slo_of_name law members name s all e =
    named_of IsSlo slo_in (slos law) members kinds.Slo name s all e

pub windows_named : ReadsBack → (members : List Object) (name : List ℕ) (s : Slo)
    → All IsOfDocument members → slo_named members name ≡ Some s → IsWindow s.time_window
windows_named law members name s all e = (slo_of_name law members name s all e).window

-- MEASURES

width_there : (o : Option SliceWidth) → IsWidth (unwrap_or (option_map (λ w. w.minutes) o) 1)
width_there None = record { some = omega arith; divides = one-dvd 60 }
width_there (Some w) = record { some = w.some; divides = w.divides }

target_there : (o : Option SliceTarget) → IsSome o
    → IsSliceTarget (unwrap_or (option_map (λ t. t.ratio) o) 0)
target_there None there = absurd (let f : ⊥ = cc there in f)
target_there (Some t) there = record { some = t.some; within_one = t.within_one }

method_width : (method : BudgetingMethod) (o : Objective) → IsWidth (width_of (method_of method o))
method_width budgeting.Occurrences o = record { some = omega arith; divides = one-dvd 60 }
method_width budgeting.Timeslices o = width_there o.time_slice_window
method_width budgeting.RatioTimeslices o = width_there o.time_slice_window

method_target : (method : BudgetingMethod) (o : Objective) → IsObjective method o
    → HasSliceTarget (method_of method o)
method_target budgeting.Occurrences o h = tt
method_target budgeting.Timeslices o h = target_there o.time_slice_target (h.has_target refl)
method_target budgeting.RatioTimeslices o h = tt

got_mapped : {A B : Type 0} (f : A → B) (P : A → Type 0) (Q : B → Type 0)
    → ((a : A) → P a → Q (f a)) → (xs : List A) → AllByRecursion P xs → (n : ℕ) (b : B)
    → slice_get (map f xs) n ≡ Some b → Q b
got_mapped f P Q h [] all n b e = absurd (let g : ⊥ = cc e in g)
got_mapped f P Q h (x ∷ xs) all zero b e = subst Q (let same : f x ≡ b = cc e in same) (h x all.0)
got_mapped f P Q h (x ∷ xs) all (suc n) b e = got_mapped f P Q h xs all.1 n b e

pub objective_measure : (name : List ℕ) (s : Slo) (reading : Reading) (o : Objective)
    → IsObjective s.budgeting_method o → IsMeasure (measure_of name s reading o)
objective_measure name s reading o h = record {
  target = o.target.below_one;
  width = method_width s.budgeting_method o;
  slice_target = method_target s.budgeting_method o h;
}

measure_with : (name : List ℕ) (s : Slo)
    → HasObjectives s → (reading : Option Reading) (n : ℕ) (m : Measure)
    → slice_get (measures_with name s reading) n ≡ Some m → IsMeasure m
measure_with name s h None n m e = absurd (let f : ⊥ = cc e in f)
measure_with name s h (Some reading) n m e = got_mapped (measure_of name s reading)
    (IsObjective s.budgeting_method) IsMeasure (objective_measure name s reading) s.objectives
    (recursion_from_All (IsObjective s.budgeting_method) s.objectives h.each) n m e

pub measures : ReadsBack → (members : List Object) (name : List ℕ) (n : ℕ) (m : Measure)
    → All IsOfDocument members → measure_at members name n ≡ Some m → IsMeasure m
measures law members name n m all e = by (slo_named members name) refl e
  where
    by : (s : Option Slo) → slo_named members name ≡ s
        → slice_get (measures_of members name s) n ≡ Some m → IsMeasure m
    by None f g = absurd (let h : ⊥ = cc g in h)
    by (Some s) f g = measure_with name s (slo_of_name law members name s all f).objectives
        (reading_named members s.indicator) n m g

-- RULES

wait_short : (o : Option AlertAfter)
    → unwrap_or (option_map (λ (a : AlertAfter). minutes_of a.span) o) 0 ≤ MAX_LOOKBACK
wait_short None = omega arith
wait_short (Some a) = a.short

pub record IsSomeRule (r : AlertRule) : Type 0 where
  pub rule : IsRule r
  pub looks_back : 0 < lookback_of r

pub condition_rule : (c : Condition) → IsSomeRule (rule_of c)
condition_rule c = record {
  rule = (c.threshold.fits, c.lookback_window.short, wait_short c.alert_after);
  looks_back = c.lookback_window.some;
}

mapped_rule : (o : Option AlertCondition) (r : AlertRule)
    → option_map (λ (c : AlertCondition). rule_of c.condition) o ≡ Some r → IsSomeRule r
mapped_rule None r e = absurd (let f : ⊥ = cc e in f)
mapped_rule (Some c) r e = subst IsSomeRule (let same : rule_of c.condition ≡ r = cc e in same)
    (condition_rule c.condition)

pub rules : (members : List Object) (name : List ℕ) (r : AlertRule)
    → rule_named members name ≡ Some r → IsSomeRule r
rules members name r e = by (bytes_eq name page) (bytes_eq name ticket) e
  where
    by : (a b : Bool) → cond a
        (Some Page) (cond b (Some Ticket) (option_map (λ (c : AlertCondition). rule_of c.condition)
        (option_and_then (first_condition members) (policy_named members name)))) ≡ Some r
        → IsSomeRule r
    by true b f = subst IsSomeRule (let same : Page ≡ r = cc f in same)
        (record { rule = tt; looks_back = omega arith })
    by false true f = subst IsSomeRule (let same : Ticket ≡ r = cc f in same)
        (record { rule = tt; looks_back = omega arith })
    by false false f =
        mapped_rule (option_and_then (first_condition members) (policy_named members name)) r f
