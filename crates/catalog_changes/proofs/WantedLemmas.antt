-- What is known of the objectives of a catalog, one SLO after another.
use Rattle.std.proofs.Common.{◌≡◌, ℕ, Bool, true, false, cond, List, [], ◌∷◌, map, filter, Option}
use Rattle.std.proofs.Common.{Some, None, refl, sym, ap, subst, arith}
use Rattle.std.specs.List.{All, AllByRecursion, Contains}
use Rattle.std.specs.Prelude.{option_and_then, slice_get}
use Rattle.std.proofs.lemmas.List.Elements.{recursion_from_All, All-from_recursion}
use Rattle.std.proofs.lemmas.List.Elements.{Contains-append_right}
use Rattle.sample_book.specs.declared.Row.{Row}
use Rattle.object_terms.specs.declared.kind.Kind.TheVariants as kinds
use Rattle.object_terms.specs.declared.Object.{Object}
use Rattle.object_terms.specs.Slo.{slo_in}
use Rattle.catalog_terms.specs.Keys.{member_of, is_key}
use Rattle.slo_catalog.proofs.KeyLemmas.{key_parts}
use Rattle.catalog_measures.specs.Names.{is_slo, slo_names}
use Rattle.kept_sums.specs.Sums.{RowFits}
use Rattle.kept_sums.specs.Objectives.{IsObjective}
use Rattle.office_history.specs.declared.Measure.{Measure}
use Rattle.office_history.specs.Objectives.{measures_named, measures_of}
use Rattle.office_derived.specs.Derived.{RowIsRead}
use Rattle.kept_sums.proofs.KeyLemmas.{all_flat, flat_contains}
use Rattle.kept_sums.proofs.ObjectiveLemmas.{all_objectives, objective_among}
use Rattle.office_derived.proofs.FormLemmas.{all_fit}
use Rattle.catalog_changes.specs.Wanted.{objectives_in}

-- NAMES

here : (xs : List (List ℕ)) (x : List ℕ) → Contains (x ∷ xs) x
here xs x = (0, omega arith, refl)

there : (xs : List (List ℕ)) (y x : List ℕ) → Contains xs x → Contains (y ∷ xs) x
there xs y x h = Contains-append_right (y ∷ []) xs x h

-- an SLO's name stands before those of the others
abbrev with_name : Bool → Object → List Object → List (List ℕ)
with_name b o others =
    let slos = filter (λ (p : Object). is_slo p.kind) others in
    map (λ (p : Object). p.name) (cond b (o ∷ slos) slos)

-- the name of an SLO that is found is one of the catalog's
slo_among : (members : List Object) (name : List ℕ) (o : Object) →
    member_of members kinds.Slo name ≡ Some o → Contains (slo_names members) name
slo_among [] name o e = cc e
slo_among (p ∷ ps) name o e =
    by (is_key kinds.Slo name p) refl e (slo_among ps name o)
  where
    rest : (b : Bool) → Contains (slo_names ps) name → Contains (with_name b p ps) name
    rest true h = there (slo_names ps) p.name name h
    rest false h = h

    first : (b : Bool) → b ≡ true → p.name ≡ name → Contains (with_name b p ps) name
    first true h same =
        subst (λ n. Contains (n ∷ slo_names ps) name) (sym same) (here (slo_names ps) name)
    first false h same = cc h

    by : (b : Bool) → is_key kinds.Slo name p ≡ b →
        cond b (Some p) (member_of ps kinds.Slo name) ≡ Some o →
        (member_of ps kinds.Slo name ≡ Some o → Contains (slo_names ps) name) →
        Contains (slo_names (p ∷ ps)) name
    by true key e more =
        let parts = key_parts kinds.Slo name p key in
        first (is_slo p.kind) (ap is_slo parts.0) parts.1
    by false key e more = rest (is_slo p.kind) (more e)

-- OBJECTIVES

pub only_objectives : (members : List Object) →
    AllByRecursion (IsObjective members) (objectives_in members)
only_objectives members =
    all_flat (IsObjective members) (measures_named members)
    (λ name. recursion_from_All (IsObjective members) (measures_named members name)
    (all_objectives members name))
    (slo_names members)

-- an SLO that has an objective is there
named_there : (members : List Object) (name : List ℕ) (m : Measure) (number : ℕ) →
    slice_get (measures_named members name) number ≡ Some m → Contains (slo_names members) name
named_there members name m number e = by (member_of members kinds.Slo name) refl e
  where
    by : (found : Option Object) → member_of members kinds.Slo name ≡ found →
        slice_get (measures_of members name (option_and_then (λ o. slo_in o.body) found)) number
        ≡ Some m → Contains (slo_names members) name
    by None is e = cc e
    by (Some o) is e = slo_among members name o is

pub each_objective : (members : List Object) (m : Measure) → IsObjective members m →
    Contains (objectives_in members) m
each_objective members m is =
    flat_contains (measures_named members) (slo_names members) m.slo m
    (named_there members m.slo m is.number is.there) (objective_among members m is)

-- each row that the catalog reads has the form that each of these wants
pub all_forms : (members : List Object) (rows : List Row) (wanted : List Measure) →
    AllByRecursion (IsObjective members) wanted → All (RowIsRead members) rows →
    All (λ (m : Measure). AllByRecursion (RowFits m) rows) wanted
all_forms members rows wanted only read =
    All-from_recursion (λ (m : Measure). AllByRecursion (RowFits m) rows) wanted (by wanted only)
  where
    read_so : AllByRecursion (RowIsRead members) rows
    read_so = recursion_from_All (RowIsRead members) rows read

    by : (wanted : List Measure) → AllByRecursion (IsObjective members) wanted →
        AllByRecursion (λ (m : Measure). AllByRecursion (RowFits m) rows) wanted
    by [] h = tt
    by (m ∷ ms) h = (all_fit members m rows h.0 read_so, by ms h.1)
