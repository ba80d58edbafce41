-- A binding of a catalog is that of an SLO with its objective, which lists its policy.
use Rattle.std.proofs.Common.{◌≡◌, ◌∙◌, ℕ, suc, ◌+◌, ◌==◌, ◌&&◌, ◌||◌, nat_le, nat_lt, Bool, true}
use Rattle.std.proofs.Common.{false, cond, not, arith, ap, refl, sym, List, [], ◌∷◌, length, filter}
use Rattle.std.proofs.Common.{Option, Some, None, option_map, option_and_then, slice_get}
use Rattle.std.proofs.lemmas.Bool.Decides.{nat_tests}
use Rattle.std.proofs.lemmas.List.Folds.{list_any-append}
use Rattle.std.proofs.lemmas.Slice.Eq.{bytes_eq-Decides}
use Rattle.std.specs.List.{flat_map, list_any}
use Rattle.std.specs.Str.{bytes_eq}
use Rattle.burn_core.specs.declared.AlertRule.TheVariants.{Page, Ticket}
use Rattle.object_terms.specs.Slo.{slo_in}
use Rattle.object_terms.specs.declared.AlertCondition.{AlertCondition}
use Rattle.object_terms.specs.declared.AlertPolicy.{AlertPolicy}
use Rattle.object_terms.specs.declared.Object.{Object}
use Rattle.object_terms.specs.declared.Slo.{Slo}
use Rattle.object_terms.specs.declared.objective.Objective.{Objective}
use Rattle.catalog_terms.specs.declared.Binding.{Binding}
use Rattle.catalog_terms.specs.Bindings.{bindings, bindings_in, bound, bound_from, has_condition}
use Rattle.catalog_terms.specs.Bindings.{is_empty, lists_condition, policy_named}
use Rattle.catalog_terms.specs.References.{names_in, page, ticket}
use Rattle.office_history.specs.declared.Measure.{Measure}
use Rattle.office_history.specs.Alerts.{Watch, condition_named, first_condition, rule_of}
use Rattle.office_history.specs.Alerts.{same_binding, watch_of, watch_with, watched}
use Rattle.office_history.specs.Objectives.{measure_at}
use Rattle.kept_lines.specs.Watches.{is_bound_by, is_bound_in}

any_flat : {A B : Type 0} (test : B → Bool) (f : A → List B) (xs : List A) →
    list_any test (flat_map f xs) ≡ list_any (λ x. list_any test (f x)) xs
any_flat test f [] = refl
any_flat test f (x ∷ xs) =
    list_any-append test (f x) (flat_map f xs)
    ∙ ap (λ b. list_any test (f x) || b) (any_flat test f xs)

-- one policy more, of those of an objective
one_more : (a b c d : Bool) → (a && (b && c)) || (a && (b && d)) ≡ (a && (b && (c || d)))
one_more true true true d = refl
one_more true true false d = refl
one_more true false c d = refl
one_more false b c d = refl

none_bound : (a b : Bool) → false ≡ (a && (b && false))
none_bound true true = refl
none_bound true false = refl
none_bound false b = refl

any_bound : (b : Binding) (slo : List ℕ) (policies : List (List ℕ)) (n : ℕ) →
    list_any (same_binding b) (bound slo policies n)
    ≡ (bytes_eq b.slo slo && (b.objective == n && list_any (bytes_eq b.policy) policies))
any_bound b slo [] n = none_bound (bytes_eq b.slo slo) (b.objective == n)
any_bound b slo (p ∷ policies) n =
    ap (λ more. (bytes_eq b.slo slo && (b.objective == n && bytes_eq b.policy p)) || more)
    (any_bound b slo policies n)
    ∙ one_more (bytes_eq b.slo slo) (b.objective == n) (bytes_eq b.policy p)
    (list_any (bytes_eq b.policy) policies)

-- a number is one of so many from another on
abbrev is_from : ℕ → ℕ → ℕ → Bool
is_from n count x = nat_le n x && nat_lt x (n + count)

none_from : (n x : ℕ) → is_from n 0 x ≡ false
none_from n x = grind (arith, nat_tests)

from_none : (count x : ℕ) → is_from 0 count x ≡ nat_lt x count
from_none count x = grind (arith, nat_tests)

next_from : (n count x : ℕ) → (x == n) || is_from (n + 1) count x ≡ is_from n (suc count) x
next_from n count x = grind (arith, nat_tests)

either : (a b c d : Bool) → (a && (b && d)) || (a && (c && d)) ≡ (a && ((b || c) && d))
either true true c true = refl
either true true true false = refl
either true true false false = refl
either true false c d = refl
either false b c d = refl

never : (a d : Bool) → false ≡ (a && (false && d))
never true d = refl
never false d = refl

any_from : (b : Binding) (slo : List ℕ) (policies : List (List ℕ)) (n : ℕ)
    (objectives : List Objective) →
    list_any (same_binding b) (bound_from slo policies n objectives)
    ≡ (bytes_eq b.slo slo && (is_from n (length objectives) b.objective
    && list_any (bytes_eq b.policy) policies))
any_from b slo policies n [] =
    never (bytes_eq b.slo slo) (list_any (bytes_eq b.policy) policies)
    ∙ ap (λ t. bytes_eq b.slo slo && (t && list_any (bytes_eq b.policy) policies))
    (sym (none_from n b.objective))
any_from b slo policies n (objective ∷ objectives) =
    list_any-append (same_binding b) (bound slo policies n)
    (bound_from slo policies (n + 1) objectives)
    ∙ (λ i. any_bound b slo policies n i || any_from b slo policies (n + 1) objectives i)
    ∙ either (bytes_eq b.slo slo) (b.objective == n)
    (is_from (n + 1) (length objectives) b.objective) (list_any (bytes_eq b.policy) policies)
    ∙ ap (λ t. bytes_eq b.slo slo && (t && list_any (bytes_eq b.policy) policies))
    (next_from n (length objectives) b.objective)

-- a name is among those that pass a test where it is one of them and passes
any_left : (name : List ℕ) (test : List ℕ → Bool) (names : List (List ℕ)) →
    list_any (bytes_eq name) (filter test names) ≡ (list_any (bytes_eq name) names && test name)
any_left name test [] = refl
any_left name test (n ∷ names) =
    by (test n) (bytes_eq name n) refl (test name) same (any_left name test names)
  where
    same : bytes_eq name n ≡ true → test n ≡ test name
    same e = ap test (sym ((bytes_eq-Decides name n).0 e))

    by : (t is : Bool) → bytes_eq name n ≡ is → (passes : Bool) → (is ≡ true → t ≡ passes) →
        list_any (bytes_eq name) (filter test names)
        ≡ (list_any (bytes_eq name) names && passes) →
        list_any (bytes_eq name) (cond t (n ∷ filter test names) (filter test names))
        ≡ ((is || list_any (bytes_eq name) names) && passes)
    by true true e true same rest = ap (λ b. b || list_any (bytes_eq name) (filter test names)) e
    by true true e false same rest = cc (same refl)
    by true false e passes same rest =
        ap (λ b. b || list_any (bytes_eq name) (filter test names)) e ∙ rest
    by false true e true same rest = cc (same refl)
    by false true e false same rest = rest ∙ none (list_any (bytes_eq name) names)
      where
        none : (b : Bool) → (b && false) ≡ false
        none true = refl
        none false = refl
    by false false e passes same rest = rest

apart : (a b c d : Bool) → (a && (b && (c && d))) ≡ ((a && (b && c)) && d)
apart true true c d = refl
apart true false c d = refl
apart false b c d = refl

-- the bindings of an SLO have one where it has both, and the policy a condition
any_in : (b : Binding) (members : List Object) (name : List ℕ) (slo : Option Slo) →
    list_any (same_binding b) (bindings_in members name slo)
    ≡ (is_bound_by b name slo && has_condition members b.policy)
any_in b members name None = refl
any_in b members name (Some slo) =
    any_from b name (filter (has_condition members) (names_in slo.alert_policies)) 0 slo.objectives
    ∙ ap (λ n. bytes_eq b.slo name && (n && list_any (bytes_eq b.policy)
    (filter (has_condition members) (names_in slo.alert_policies))))
    (from_none (length slo.objectives) b.objective)
    ∙ ap (λ t. bytes_eq b.slo name && (nat_lt b.objective (length slo.objectives) && t))
    (any_left b.policy (has_condition members) (names_in slo.alert_policies))
    ∙ apart (bytes_eq b.slo name) (nat_lt b.objective (length slo.objectives))
    (list_any (bytes_eq b.policy) (names_in slo.alert_policies)) (has_condition members b.policy)

both_or : (a b c : Bool) → (a && c) || (b && c) ≡ ((a || b) && c)
both_or true b true = refl
both_or true true false = refl
both_or true false false = refl
both_or false b c = refl

any_object : (b : Binding) (members objects : List Object) →
    list_any (λ o. list_any (same_binding b) (bindings_in members o.name (slo_in o.body))) objects
    ≡ (list_any (is_bound_in b) objects && has_condition members b.policy)
any_object b members [] = refl
any_object b members (o ∷ objects) =
    (λ i. any_in b members o.name (slo_in o.body) i || any_object b members objects i)
    ∙ both_or (is_bound_in b o) (list_any (is_bound_in b) objects) (has_condition members b.policy)

-- a catalog has a binding
pub among_bindings : (b : Binding) (members : List Object) →
    list_any (same_binding b) (bindings members)
    ≡ (list_any (is_bound_in b) members && has_condition members b.policy)
among_bindings b members =
    any_flat (same_binding b) (λ o. bindings_in members o.name (slo_in o.body)) members
    ∙ any_object b members members

-- a policy without a condition has no rule
no_condition : (members : List Object) (policy : AlertPolicy) (names : List (List ℕ)) →
    is_empty names ≡ true →
    option_and_then (condition_named members) (slice_get names 0) ≡ None
no_condition members policy [] e = refl
no_condition members policy (n ∷ names) e = cc e

no_rule : (members : List Object) (name : List ℕ) (is_page is_ticket : Bool)
    (policy : Option AlertPolicy) →
    ((is_page || is_ticket) || lists_condition policy) ≡ false →
    cond is_page (Some Page) (cond is_ticket (Some Ticket)
    (option_map (λ (c : AlertCondition). rule_of c.condition)
    (option_and_then (first_condition members) policy))) ≡ None
no_rule members name true is_ticket policy e = cc e
no_rule members name false true policy e = cc e
no_rule members name false false None e = refl
no_rule members name false false (Some policy) e =
    ap (option_map (λ (c : AlertCondition). rule_of c.condition))
    (by (names_in policy.conditions) e)
  where
    by : (names : List (List ℕ)) → lists_condition (Some policy) ≡ false →
        first_condition members policy ≡ None
    by names e = no_condition members policy (names_in policy.conditions)
        (empty (is_empty (names_in policy.conditions)) e)
      where
        empty : (b : Bool) → not b ≡ false → b ≡ true
        empty true e = refl
        empty false e = cc e

unwatched : (measure : Option Measure) → watch_with measure None ≡ None
unwatched None = refl
unwatched (Some m) = refl

-- what a binding watches is found where an SLO has its objective and lists its policy
pub watched_where : (members : List Object) (b : Binding) →
    cond (list_any (is_bound_in b) members) (watch_of members b) None ≡ watched members b
watched_where members b =
    by (list_any (is_bound_in b) members) (has_condition members b.policy) refl
    ∙ ap (λ t. cond t (watch_of members b) None) (sym (among_bindings b members))
  where
    by : (there has : Bool) → has_condition members b.policy ≡ has →
        cond there (watch_of members b) None ≡ cond (there && has) (watch_of members b) None
    by true true e = refl
    by true false e =
        ap (watch_with (measure_at members b.slo b.objective))
        (no_rule members b.policy (bytes_eq b.policy page) (bytes_eq b.policy ticket)
        (policy_named members b.policy) e)
        ∙ unwatched (measure_at members b.slo b.objective)
    by false has e = refl

pub not_watched : (members : List Object) (b : Binding) →
    list_any (is_bound_in b) members ≡ false → None ≡ watched members b
not_watched members b none =
    ap (λ t. cond t (watch_of members b) None) (sym none) ∙ watched_where members b

pub bound_watched : (members : List Object) (b : Binding) (w : Option Watch) →
    list_any (is_bound_in b) members ≡ true → w ≡ watch_of members b → w ≡ watched members b
bound_watched members b w there is =
    is ∙ ap (λ t. cond t (watch_of members b) None) (sym there) ∙ watched_where members b
