-- What is known of a binding that watches an alert.
use Rattle.std.proofs.Common.{◌≡◌, ◌∙◌, ◌==◌, ◌&&◌, Bool, true, false, cond, List, Option, Some}
use Rattle.std.proofs.Common.{None, IfSome, ap, refl, subst, sym}
use Rattle.std.specs.List.{Contains, list_any}
use Rattle.std.specs.Str.{bytes_eq}
use Rattle.std.proofs.lemmas.Bool.{eqb-true}
use Rattle.std.proofs.lemmas.Map.Views.{Contains-from_any}
use Rattle.std.proofs.lemmas.Slice.Eq.{bytes_eq-Decides}
use Rattle.object_terms.specs.declared.Object.{Object}
use Rattle.catalog_terms.specs.declared.Binding.{Binding}
use Rattle.catalog_terms.specs.Bindings.{bindings}
use Rattle.office_history.specs.Alerts.{Watch, same_binding, watch_of, watched}
use Rattle.kept_lines.specs.Watches.{IsWatched}

both : (a b : Bool) → a && b ≡ true → (a ≡ true) × (b ≡ true)
both true true h = (refl, refl)
both true false h = cc h
both false b h = cc h

-- bindings of one SLO, objective and policy are one
pub one_binding : (a b : Binding) → same_binding a b ≡ true → a ≡ b
one_binding a b h =
    let slo = both (bytes_eq a.slo b.slo)
    (a.objective == b.objective && bytes_eq a.policy b.policy) h in
    let rest = both (a.objective == b.objective) (bytes_eq a.policy b.policy) slo.1 in
    λ i. record {
      slo = (bytes_eq-Decides a.slo b.slo).0 slo.0 i;
      objective = eqb-true a.objective b.objective rest.0 i;
      policy = (bytes_eq-Decides a.policy b.policy).0 rest.1 i;
    }

-- so a binding that is found is one of them
binding_among : (b : Binding) (bs : List Binding) → list_any (same_binding b) bs ≡ true →
    Contains bs b
binding_among b bs found = Contains-from_any one_binding b bs found

-- what a binding of the catalog watches is watched
pub watched_among : (members : List Object) (b : Binding) (w : Option Watch) →
    list_any (same_binding b) (bindings members) ≡ true → w ≡ watch_of members b →
    IfSome w (IsWatched members)
watched_among members b None found is = tt
watched_among members b (Some w) found is = record {
  binding = b;
  among = binding_among b (bindings members) found;
  watches = sym is;
}

-- so what is found of a binding is watched
pub watched_is : (members : List Object) (b : Binding) (w : Option Watch) →
    w ≡ watched members b → IfSome w (IsWatched members)
watched_is members b w is = by (list_any (same_binding b) (bindings members)) refl
  where
    by : (t : Bool) → list_any (same_binding b) (bindings members) ≡ t →
        IfSome w (IsWatched members)
    by true e =
        watched_among members b w e (is ∙ ap (λ t. cond t (watch_of members b) None) e)
    by false e =
        subst (λ (v : Option Watch). IfSome v (IsWatched members))
        (sym (is ∙ ap (λ t. cond t (watch_of members b) None) e)) tt
