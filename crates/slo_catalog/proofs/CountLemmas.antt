-- How many bindings there are.
use Rattle.std.proofs.Common.{◌≡◌, ℕ, ◌+◌, ◌*◌, ◌<◌, ◌≤◌, List, [], ◌∷◌, length, take, refl}
use Rattle.std.proofs.Common.{ap, sym, subst, ◌∙◌, arith, length-append, flat_map, get_or}
use Rattle.std.proofs.Common.{Bool, true, false, cond, nat_lt, Option, Some, None}
use Rattle.std.proofs.lemmas.Bool.{ltb-false}
use Rattle.std.proofs.lemmas.Grind.{common_steps}
use Rattle.std.proofs.lemmas.List.{length-map}
use Rattle.std.proofs.lemmas.List.Sums.{sum_by-cons, sum_by_more, sum_by_more_le}
use Rattle.std.specs.Prelude.{sum_by}
use Rattle.slo_limits.specs.declared.TheConstants.{MAX_BINDINGS, MAX_CATALOG_BYTES, MAX_OBJECTS}
use Rattle.slo_limits.specs.declared.TheConstants.{MAX_SLIS, MAX_SLOS}
use Rattle.object_terms.specs.declared.Kind.TheVariants as kinds
use Rattle.object_terms.specs.declared.Object.{Object}
use Rattle.object_terms.specs.declared.Objective.{Objective}
use Rattle.object_terms.specs.Slo.{slo_in}
use Rattle.catalog_terms.specs.declared.Binding.{Binding}
use Rattle.catalog_terms.specs.declared.CatalogLimit.{CatalogLimit}
use Rattle.catalog_terms.specs.declared.CatalogLimit.TheVariants as limits
use Rattle.catalog_terms.specs.Bindings.{bindings, bindings_in, bound, bound_from}
use Rattle.catalog_terms.specs.Limits.{catalog_bytes, count_of_kind, else_within, first_limit}

-- each objective has as many bindings as there are policies
pub bound_length : (slo : List ℕ) (policies : List (List ℕ)) (n : ℕ) (objectives : List Objective)
    → length (bound_from slo policies n objectives) ≡ length objectives * length policies
bound_length slo policies n [] = omega arith
bound_length slo policies n (objective ∷ objectives) = omega (
  arith,
  length-append (bound slo policies n) (bound_from slo policies (n + 1) objectives),
  length-map policies (λ p. make slo n p),
  bound_length slo policies (n + 1) objectives,
)
  where
    make : List ℕ → ℕ → List ℕ → Binding
    make slo n p = record { slo = slo; objective = n; policy = p }

-- how many bindings an object has
abbrev pub count_at : List Object → Object → ℕ
count_at members o = length (bindings_in members o.name (slo_in o.body))

flat_length : (f : Object → List Binding) (os : List Object)
    → length (flat_map f os) ≡ sum_by (λ (o : Object). length (f o)) os
flat_length f [] = refl
flat_length f (o ∷ os) = length-append (f o) (flat_map f os)
    ∙ ap (λ (n : ℕ). length (f o) + n) (flat_length f os)
    ∙ sym (sum_by-cons (λ (o : Object). length (f o)) o os)

-- those of all objects together
pub count_all : (members : List Object)
    → length (bindings members) ≡ sum_by (count_at members) members
count_all members = flat_length (λ (o : Object). bindings_in members o.name (slo_in o.body)) members

-- the objects that are gone through are the members
module _ (members os : List Object) (same : os ≡ members) where
  -- one object more
  pub count_next : (place total count : ℕ) (o : Object) → place < length os → o ≡ get_or os place o
      → total ≡ sum_by (count_at members) (take place members) → count ≡ count_at members o
      → total + count ≡ sum_by (count_at members) (take (place + 1) members)
  count_next place total count o within is so here = omega (
    arith,
    sum_by_more (count_at members) members place o
        (subst (λ (them : List Object). place < length them) same within),
    so,
    here ∙ ap (count_at members) (is ∙ ap (λ (them : List Object). get_or them place o) same),
  )

  -- those so far and one object's are no more than all
  pub count_within : (place total count : ℕ) (o : Object) → place < length os
      → o ≡ get_or os place o → total ≡ sum_by (count_at members) (take place members)
      → count ≡ count_at members o → total + count ≤ length (bindings members)
  count_within place total count o within is so here = omega (
    arith,
    sum_by_more_le (count_at members) members place o
        (subst (λ (them : List Object). place < length them) same within),
    so,
    here ∙ ap (count_at members) (is ∙ ap (λ (them : List Object). get_or them place o) same),
    count_all members,
  )

  -- none is left
  pub count_whole : (place total : ℕ) → length os ≤ place
      → total ≡ sum_by (count_at members) (take place members)
      → total ≡ length (bindings members)
  count_whole place total over is =
      let few : length members ≤ place =
      subst (λ (them : List Object). length them ≤ place) same over in
      let all : take place members ≡ members = grind (arith, common_steps) in
      is ∙ ap (sum_by (count_at members)) all ∙ sym (count_all members)

-- a count within its limit, and the limits behind it
at_most : (most count : ℕ) (limit : CatalogLimit) (rest : Option CatalogLimit)
    → else_within most count limit rest ≡ None → count ≤ most
at_most most count limit rest e = by (nat_lt most count) refl e
  where
    by : (b : Bool) → nat_lt most count ≡ b → cond b (Some limit) rest ≡ None → count ≤ most
    by true f g = cc g
    by false f g = ltb-false most count f

behind : (most count : ℕ) (limit : CatalogLimit) (rest : Option CatalogLimit)
    → else_within most count limit rest ≡ None → rest ≡ None
behind most count limit rest e = by (nat_lt most count) e
  where
    by : (b : Bool) → cond b (Some limit) rest ≡ None → rest ≡ None
    by true g = cc g
    by false g = g

-- no limit is passed, so there are no more bindings than theirs
pub few_bindings : (members : List Object) → first_limit members ≡ None
    → length (bindings members) ≤ MAX_BINDINGS
few_bindings members none =
    at_most MAX_BINDINGS (length (bindings members)) limits.Bindings None
    (behind MAX_SLOS (count_of_kind kinds.Slo members) limits.Slos _
    (behind MAX_SLIS (count_of_kind kinds.Sli members) limits.Slis _
    (behind MAX_CATALOG_BYTES (catalog_bytes members) limits.Catalog _
    (behind MAX_OBJECTS (length members) limits.Objects _ none))))
