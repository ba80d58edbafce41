-- What keeps a catalog whole.
use Rattle.std.proofs.Common.{◌≡◌, ℕ, ◌+◌, ◌≤◌, Bool, true, false, not, ◌&&◌, ◌||◌, cond, is_some}
use Rattle.std.proofs.Common.{◌⊎◌, inl, inr, List, [], ◌∷◌, ◌++◌, Option, Some, None, length}
use Rattle.std.proofs.Common.{filter, option_map, refl, sym, ap, ap₂, ◌∙◌, true≢false, arith}
use Rattle.std.proofs.Common.{bytes_eq}
use Rattle.std.specs.Prelude.{sum_by, nat_lt, option_and_then}
use Rattle.std.specs.List.{AllByRecursion, position_from}
use Rattle.std.proofs.lemmas.Bool.Decides.{nat_tests}
use Rattle.std.proofs.lemmas.List.{length-append, length-map}
use Rattle.std.proofs.lemmas.List.Sums.{sum_by-cons}
use Rattle.std.proofs.lemmas.List.Filters.{length-filter_both, sum_by-filter_both}
use Rattle.std.proofs.lemmas.List.Concat.{length-flat_map}
use Rattle.object_terms.specs.declared.kind.Kind.{Kind}
use Rattle.object_terms.specs.declared.kind.Kind.TheVariants as kinds
use Rattle.object_terms.specs.declared.object.Object.{Object}
use Rattle.object_terms.specs.declared.slo.Slo.{Slo}
use Rattle.object_terms.specs.declared.objective.Objective.{Objective}
use Rattle.object_terms.specs.Sli.{sli_in}
use Rattle.object_terms.specs.Slo.{slo_in}
use Rattle.object_terms.specs.AlertPolicy.{policy_in}
use Rattle.catalog_terms.specs.declared.fault.CatalogLimit.{CatalogLimit}
use Rattle.catalog_terms.specs.declared.needs_op.NeedsOp.{NeedsOp}
use Rattle.catalog_terms.specs.declared.binding.Binding.{Binding}
use Rattle.catalog_terms.specs.Keys.{is_kind, is_key, member_of}
use Rattle.catalog_terms.specs.Catalog.{without}
use Rattle.catalog_terms.specs.References.{names_in, is_built_in, first_given}
use Rattle.catalog_terms.specs.NeedsOp.{sli_named, gives_values, lacks_op, lacking_in, needing_op}
use Rattle.catalog_terms.specs.NeedsOp.{first_needing_op}
use Rattle.catalog_terms.specs.Bindings.{policy_named, lists_condition, has_condition, bound}
use Rattle.catalog_terms.specs.Bindings.{bound_from, bindings_in, bindings}
use Rattle.catalog_terms.specs.Limits.{written_bytes, catalog_bytes, count_of_kind, else_within}
use Rattle.catalog_terms.specs.Limits.{first_limit}
use Rattle.slo_catalog.specs.Whole.{HaveOps}
use Rattle.slo_catalog.proofs.AmongLemmas.{all_weaker}
use Rattle.slo_catalog.proofs.PutLemmas.{in_without}
use Rattle.slo_catalog.proofs.KeyLemmas.{key_parts}
use Rattle.slo_catalog.proofs.LegalLemmas.{there_found, or_none}

-- A REMOVAL FINDS NO OTHER OBJECT

-- what is found of a kind and name once another one is removed, or it itself
abbrev Found : List Object → Kind → List ℕ → Kind → List ℕ → Type 0
Found os kind name k n = (member_of (without kind name os) k n ≡ None)
    ⊎ (member_of (without kind name os) k n ≡ member_of os k n)

none_there : (o : Option Object) → (is_some o ≡ true → ⊥) → o ≡ None
none_there None h = refl
none_there (Some o) h = absurd (h refl)

removed_itself : (os : List Object) (kind : Kind) (name : List ℕ) (k : Kind) (n : List ℕ)
    → ((o : Object) → is_key k n o ≡ true → is_key kind name o ≡ true)
    → member_of (without kind name os) k n ≡ None
removed_itself os kind name k n same = none_there (member_of (without kind name os) k n) (λ h.
    let there = there_found (without kind name os) k n h in
    let kept = (in_without kind name there.0 os there.1.0).1 in
    true≢false (sym (sym (ap not (same there.0 there.1.1)) ∙ kept)))

-- where no object of the one kind and name is of the other, it is found as before
pub kept_apart : (os : List Object) (kind : Kind) (name : List ℕ) (k : Kind) (n : List ℕ)
    → ((o : Object) → is_key kind name o ≡ true → is_key k n o ≡ false)
    → member_of (without kind name os) k n ≡ member_of os k n
kept_apart [] kind name k n apart = refl
kept_apart (o ∷ os) kind name k n apart =
    by (is_key kind name o) refl (kept_apart os kind name k n apart)
  where
    by : (b : Bool) → is_key kind name o ≡ b
        → member_of (without kind name os) k n ≡ member_of os k n
        → member_of (cond (not b) (o ∷ without kind name os) (without kind name os)) k n
        ≡ cond (is_key k n o) (Some o) (member_of os k n)
    by true e rest = rest ∙ sym (ap (λ c. cond c (Some o) (member_of os k n)) (apart o e))
    by false e rest = ap (cond (is_key k n o) (Some o)) rest

-- the test whether an object has a key says of all objects of one key the same
moved : (kind : Kind) (name : List ℕ) (k : Kind) (n : List ℕ) (o : Object) → is_key k n o ≡ true
    → is_key kind name o ≡ (is_kind k kind && bytes_eq n name)
moved kind name k n o h = let parts = key_parts k n o h in
    ap₂ (λ l t. is_kind l kind && bytes_eq t name) parts.0 parts.1

found_without : (os : List Object) (kind : Kind) (name : List ℕ) (k : Kind) (n : List ℕ)
    → Found os kind name k n
found_without os kind name k n = by (is_kind k kind && bytes_eq n name) refl
  where
    apart : (is_kind k kind && bytes_eq n name) ≡ false → (o : Object)
        → is_key kind name o ≡ true → (b : Bool) → is_key k n o ≡ b → b ≡ false
    apart e o h true f = absurd (true≢false (sym h ∙ moved kind name k n o f ∙ e))
    apart e o h false f = refl

    by : (b : Bool) → (is_kind k kind && bytes_eq n name) ≡ b
        → (member_of (without kind name os) k n ≡ None)
        ⊎ (member_of (without kind name os) k n ≡ member_of os k n)
    by true e = inl (removed_itself os kind name k n (λ o h. moved kind name k n o h ∙ e))
    by false e = inr (kept_apart os kind name k n (λ o h. apart e o h (is_key k n o) refl))

-- OBJECTIVES OVER VALUES

values_without : (os : List Object) (kind : Kind) (name sli : List ℕ)
    → (gives_values (sli_named (without kind name os) sli) ≡ false)
    ⊎ (gives_values (sli_named (without kind name os) sli) ≡ gives_values (sli_named os sli))
values_without os kind name sli = by (found_without os kind name kinds.Sli sli)
  where
    by : Found os kind name kinds.Sli sli
        → (gives_values (sli_named (without kind name os) sli) ≡ false)
        ⊎ (gives_values (sli_named (without kind name os) sli) ≡ gives_values (sli_named os sli))
    by (inl e) = inl (ap (λ o. gives_values (option_and_then (λ p. sli_in p.body) o)) e)
    by (inr e) = inr (ap (λ o. gives_values (option_and_then (λ p. sli_in p.body) o)) e)

-- an objective as it is named
abbrev named : Object → Option ℕ → Option NeedsOp
named o found = option_map (λ n. record { slo = o.name; objective = n }) found

ops_of_one : (os : List Object) (kind : Kind) (name : List ℕ) (o : Object) → needing_op os o ≡ None
    → needing_op (without kind name os) o ≡ None
ops_of_one os kind name o h = by (slo_in o.body) h
  where
    by_values : (slo : Slo) → (gives_values (sli_named (without kind name os) slo.indicator)
        ≡ false) ⊎ (gives_values (sli_named (without kind name os) slo.indicator)
        ≡ gives_values (sli_named os slo.indicator))
        → named o (lacking_in os (Some slo)) ≡ None
        → named o (lacking_in (without kind name os) (Some slo)) ≡ None
    by_values slo (inl e) k =
        ap (λ b. named o (cond b (position_from lacks_op 0 slo.objectives) None)) e
    by_values slo (inr e) k =
        ap (λ b. named o (cond b (position_from lacks_op 0 slo.objectives) None)) e ∙ k

    by : (s : Option Slo) → named o (lacking_in os s) ≡ None
        → named o (lacking_in (without kind name os) s) ≡ None
    by None k = refl
    by (Some slo) k = by_values slo (values_without os kind name slo.indicator) k

all_left : (P : Object → Type 0) (test : Object → Bool) (os : List Object) → AllByRecursion P os
    → AllByRecursion P (filter test os)
all_left P test [] h = tt
all_left P test (o ∷ os) h = by (test o) (all_left P test os h.1)
  where
    by : (b : Bool) → AllByRecursion P (filter test os)
        → AllByRecursion P (cond b (o ∷ filter test os) (filter test os))
    by true rest = (h.0, rest)
    by false rest = rest

pub ops_without : (os : List Object) (kind : Kind) (name : List ℕ) → HaveOps os
    → HaveOps (without kind name os)
ops_without os kind name h =
    all_weaker (λ o. needing_op os o ≡ None) (λ o. needing_op (without kind name os) o ≡ None)
    (ops_of_one os kind name) (without kind name os)
    (all_left (λ o. needing_op os o ≡ None) (λ o. not (is_key kind name o)) os h)

none_given : {A B : Type 0} (f : A → Option B) (xs ys : List A) → first_given f (xs ++ ys) ≡ None
    → AllByRecursion (λ x. f x ≡ None) ys
none_given f [] [] h = tt
none_given f [] (y ∷ ys) h = let n = or_none (f y) (first_given f ys) h in
    (n.0, none_given f [] ys n.1)
none_given f (x ∷ xs) ys h = none_given f xs ys (or_none (f x) (first_given f (xs ++ ys)) h).1

-- where no objective needs `op` or `value`, all have them
pub ops_of_none : (members objects : List Object) → first_needing_op members objects ≡ None
    → HaveOps members
ops_of_none members objects h = none_given (needing_op members) objects members h

-- LIMITS

fewer : (test : Object → Bool) (os : List Object) → length (filter test os) ≤ length os
fewer test os = let both = length-filter_both test (λ o. not (test o)) (λ o. refl) os in
    omega (arith, both)

less : (test : Object → Bool) (f : Object → ℕ) (os : List Object)
    → sum_by f (filter test os) ≤ sum_by f os
less test f os = let both = sum_by-filter_both test (λ o. not (test o)) (λ o. refl) f os in
    omega (arith, both)

each_less : (f g : Object → ℕ) → ((o : Object) → f o ≤ g o) → (os : List Object)
    → sum_by f os ≤ sum_by g os
each_less f g h [] = omega arith
each_less f g h (o ∷ os) = omega (
  arith,
  h o,
  each_less f g h os,
  sum_by-cons f o os,
  sum_by-cons g o os,
)

conditions_without : (os : List Object) (kind : Kind) (name policy : List ℕ)
    → has_condition (without kind name os) policy ≡ true → has_condition os policy ≡ true
conditions_without os kind name policy =
    by (is_built_in policy) (found_without os kind name kinds.AlertPolicy policy)
  where
    by : (b : Bool) → Found os kind name kinds.AlertPolicy policy
        → (b || lists_condition (policy_named (without kind name os) policy)) ≡ true
        → (b || lists_condition (policy_named os policy)) ≡ true
    by true f h = refl
    by false (inl e) h = absurd (true≢false
        (sym h ∙ ap (λ o. lists_condition (option_and_then (λ p. policy_in p.body) o)) e))
    by false (inr e) h =
        sym (ap (λ o. lists_condition (option_and_then (λ p. policy_in p.body) o)) e) ∙ h

fewer_pass : (p q : List ℕ → Bool) → ((n : List ℕ) → p n ≡ true → q n ≡ true) → (ns : List (List ℕ))
    → length (filter p ns) ≤ length (filter q ns)
fewer_pass p q h [] = omega arith
fewer_pass p q h (n ∷ ns) = by (p n) (q n) refl refl (fewer_pass p q h ns)
  where
    by : (a b : Bool) → p n ≡ a → q n ≡ b → length (filter p ns) ≤ length (filter q ns) → length
        (cond a (n ∷ filter p ns) (filter p ns)) ≤ length (cond b (n ∷ filter q ns) (filter q ns))
    by true true e f rest = omega (arith, rest)
    by true false e f rest = absurd (true≢false (sym (h n e) ∙ f))
    by false true e f rest = omega (arith, rest)
    by false false e f rest = rest

bound_less : (slo : List ℕ) (ps qs : List (List ℕ))
    → length ps ≤ length qs → (n : ℕ) (objectives : List Objective)
    → length (bound_from slo ps n objectives) ≤ length (bound_from slo qs n objectives)
bound_less slo ps qs h n [] = omega arith
bound_less slo ps qs h n (o ∷ os) = omega (
  arith,
  h,
  bound_less slo ps qs h (n + 1) os,
  length-append (bound slo ps n) (bound_from slo ps (n + 1) os),
  length-append (bound slo qs n) (bound_from slo qs (n + 1) os),
  length-map {B = Binding} ps (λ p. record { slo = slo; objective = n; policy = p }),
  length-map {B = Binding} qs (λ p. record { slo = slo; objective = n; policy = p }),
)

bindings_of_one : (os : List Object) (kind : Kind) (name : List ℕ) (o : Object)
    → length (bindings_in (without kind name os) o.name (slo_in o.body))
    ≤ length (bindings_in os o.name (slo_in o.body))
bindings_of_one os kind name o = by (slo_in o.body)
  where
    by : (s : Option Slo) → length (bindings_in (without kind name os) o.name s)
        ≤ length (bindings_in os o.name s)
    by None = omega arith
    by (Some slo) = bound_less o.name (filter (has_condition (without kind name os))
        (names_in slo.alert_policies)) (filter (has_condition os) (names_in slo.alert_policies))
        (fewer_pass (has_condition (without kind name os)) (has_condition os)
        (conditions_without os kind name) (names_in slo.alert_policies)) 0 slo.objectives

bindings_without : (os : List Object) (kind : Kind) (name : List ℕ)
    → length (bindings (without kind name os)) ≤ length (bindings os)
bindings_without os kind name =
    let left = without kind name os in
    let here = length-flat_map (λ o. bindings_in left o.name (slo_in o.body)) left in
    let there = length-flat_map (λ o. bindings_in os o.name (slo_in o.body)) os in
    let fewer_each = each_less (λ o. length (bindings_in left o.name (slo_in o.body)))
    (λ o. length (bindings_in os o.name (slo_in o.body))) (bindings_of_one os kind name) left in
    let fewer_all = less (λ o. not (is_key kind name o))
    (λ o. length (bindings_in os o.name (slo_in o.body))) os in
    omega (arith, here, there, fewer_each, fewer_all)

-- a limit that isn't passed isn't passed by less
under : (most more count : ℕ) (limit : CatalogLimit) (rest behind : Option CatalogLimit)
    → count ≤ more → (rest ≡ None → behind ≡ None) → else_within most more limit rest ≡ None
    → else_within most count limit behind ≡ None
under most more count limit rest behind le go h = by (nat_lt most more) refl h
  where
    below : (b : Bool) → nat_lt most count ≡ b → nat_lt most more ≡ false → b ≡ false
    below true e f = absurd (grind (arith, nat_tests))
    below false e f = refl

    by : (b : Bool) → nat_lt most more ≡ b → cond b (Some limit) rest ≡ None
        → else_within most count limit behind ≡ None
    by true e k = absurd (true≢false (ap is_some k))
    by false e k = ap (λ c. cond c (Some limit) behind) (below (nat_lt most count) refl e) ∙ go k

pub limits_without : (os : List Object) (kind : Kind) (name : List ℕ) → first_limit os ≡ None
    → first_limit (without kind name os) ≡ None
limits_without os kind name =
    under _ (length os) (length (without kind name os)) _ _ _
    (fewer (λ o. not (is_key kind name o)) os)
    (under _ (catalog_bytes os) (catalog_bytes (without kind name os)) _ _ _
    (less (λ o. not (is_key kind name o)) written_bytes os)
    (under _ (count_of_kind kinds.Sli os)
    (count_of_kind kinds.Sli (without kind name os)) _ _ _ (less (λ o. not (is_key kind name o))
    (λ o. cond (is_kind o.kind kinds.Sli) 1 0) os)
    (under _ (count_of_kind kinds.Slo os)
    (count_of_kind kinds.Slo (without kind name os)) _ _ _ (less (λ o. not (is_key kind name o))
    (λ o. cond (is_kind o.kind kinds.Slo) 1 0) os)
    (under _ (length (bindings os)) (length (bindings (without kind name os))) _ _ _
    (bindings_without os kind name) (λ e. e)))))
