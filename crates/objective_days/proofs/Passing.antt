-- The days of members, and whether they pass the limit.
use Rattle.std.proofs.Common.{◌≡◌, ℕ, ◌+◌, ◌<◌, ◌≤◌, List, ap, sym, ◌∙◌, arith, length, take, refl}
use Rattle.std.proofs.Common.{get_or, Bool, true, false, cond, nat_lt, Option, Some, None}
use Rattle.std.proofs.lemmas.Bool.{le-ltb, lt-ltb, ltb-false}
use Rattle.std.proofs.lemmas.Grind.{common_steps}
use Rattle.std.proofs.lemmas.List.Sums.{sum_by_more, sum_by_more_le}
use Rattle.slo_limits.specs.declared.TheConstants.{MAX_DAYS, MAX_OBJECTS}
use Rattle.catalog_terms.specs.declared.CatalogLimit.{CatalogLimit}
use Rattle.catalog_terms.specs.Limits.{else_within, first_limit}
use Rattle.object_terms.specs.declared.Object.{Object}
use Rattle.object_terms.specs.Slo.{slo_in}
use Rattle.sample_book.specs.declared.Row.{Row}
use Rattle.office_history.specs.Batches.{days_of_slo, objective_days}

-- one member more
pub passes_next : (members : List Object) (rows : List Row) (place total pairs : ℕ)
    (o : Object) → place < length members → o ≡ get_or members place o →
    total ≡ objective_days (take place members) rows → pairs ≡ days_of_slo rows (slo_in o.body) →
    total + pairs ≡ objective_days (take (place + 1) members) rows
passes_next members rows place total pairs o within is so here =
    let all =
    sum_by_more (λ (o : Object). days_of_slo rows (slo_in o.body)) members place o within in
    let same : pairs ≡ days_of_slo rows (slo_in (get_or members place o).body) = here
    ∙ ap (λ (o : Object). days_of_slo rows (slo_in o.body)) is in
    omega (arith, all, so, same)

-- members of which none is left, and whose days are within the limit
pub passes_not : (members : List Object) (rows : List Row) (place total : ℕ) →
    length members ≤ place → total ≡ objective_days (take place members) rows → total ≤ MAX_DAYS →
    false ≡ nat_lt MAX_DAYS (objective_days members rows)
passes_not members rows place total over is within =
    let all : take place members ≡ members = grind (arith, common_steps) in
    let same : total ≡ objective_days members rows = is
    ∙ ap (λ (ms : List Object). objective_days ms rows) all in
    sym (le-ltb MAX_DAYS (objective_days members rows) (omega (arith, same, within)))

-- members whose days pass the limit already
pub passes_already : (members : List Object) (rows : List Row) (place total pairs : ℕ)
    (o : Object) → place < length members → o ≡ get_or members place o →
    total ≡ objective_days (take place members) rows → pairs ≡ days_of_slo rows (slo_in o.body) →
    MAX_DAYS < total + pairs → true ≡ nat_lt MAX_DAYS (objective_days members rows)
passes_already members rows place total pairs o within is so here h =
    let all =
    sum_by_more_le (λ (o : Object). days_of_slo rows (slo_in o.body)) members place o within in
    let same : pairs ≡ days_of_slo rows (slo_in (get_or members place o).body) = here
    ∙ ap (λ (o : Object). days_of_slo rows (slo_in o.body)) is in
    sym (lt-ltb MAX_DAYS (objective_days members rows) (omega (arith, all, so, same, h)))

-- members of which none is left
pub counted_all : (members : List Object) (rows : List Row) (place total : ℕ) →
    length members ≤ place → total ≡ objective_days (take place members) rows →
    total ≡ objective_days members rows
counted_all members rows place total over is =
    let all : take place members ≡ members = grind (arith, common_steps) in
    is ∙ ap (λ (ms : List Object). objective_days ms rows) all

-- a count within its limit
at_most : (most count : ℕ) (limit : CatalogLimit) (rest : Option CatalogLimit)
    → else_within most count limit rest ≡ None → count ≤ most
at_most most count limit rest e = by (nat_lt most count) refl e
  where
    by : (b : Bool) → nat_lt most count ≡ b → cond b (Some limit) rest ≡ None → count ≤ most
    by true f g = cc g
    by false f g = ltb-false most count f

-- a catalog has no more members than the limit
pub few_members : (members : List Object) → first_limit members ≡ None
    → length members ≤ MAX_OBJECTS
few_members members none = at_most MAX_OBJECTS (length members) _ _ none
