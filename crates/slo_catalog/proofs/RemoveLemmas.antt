-- What a removal that isn't refused makes of a catalog.
use Rattle.std.proofs.Common.{◌≡◌, ℕ, List, [], ◌∷◌, ◌++◌, Option, Some, None, Result, Ok, Err}
use Rattle.std.proofs.Common.{IfOk, is_ok, refl, sym, ap, subst, true≢false}
use Rattle.object_terms.specs.declared.kind.Kind.{Kind}
use Rattle.object_terms.specs.declared.object.Object.{Object}
use Rattle.catalog_terms.specs.declared.fault.RemoveFault.{RemoveFault}
use Rattle.catalog_terms.specs.declared.fault.RemoveError.{RemoveError}
use Rattle.catalog_terms.specs.Keys.{member_of}
use Rattle.catalog_terms.specs.Catalog.{Change, Removed, IsCatalog, without}
use Rattle.catalog_terms.specs.References.{first_referrer}
use Rattle.slo_catalog.specs.Whole.{CatalogIsWhole}
use Rattle.catalog_terms.specs.Remove.{unless_used, where_found, remaining_members, Removes}
use Rattle.slo_catalog.proofs.LegalLemmas.{legal_removed}
use Rattle.slo_catalog.proofs.WholeLemmas.{ops_without, limits_without}
use Rattle.slo_catalog.proofs.HistoryLemmas.{removed_kept}

abbrev ok_of : List Object → Result (List Object) RemoveFault → List Object
ok_of other (Ok members) = members
ok_of other (Err fault) = other

found_one : (found : Option Object) (rest : Result (List Object) RemoveFault)
    (members : List Object) → where_found found rest ≡ Ok members → rest ≡ Ok members
found_one None rest members h = absurd (true≢false (sym (ap is_ok h)))
found_one (Some o) rest members h = h

not_used : (user : Option Object) (left members : List Object) → unless_used user left ≡ Ok members
    → (user ≡ None) × (members ≡ left)
not_used None left members h = (refl, sym (ap (ok_of members) h))
not_used (Some o) left members h = absurd (true≢false (sym (ap is_ok h)))

left_by : (old members : List Object) (kind : Kind) (name : List ℕ)
    → remaining_members old kind name ≡ Ok members → (first_referrer old kind name ≡ None)
    × (members ≡ without kind name old)
left_by old members kind name h =
    not_used (first_referrer old kind name) (without kind name old) members
    (found_one (member_of old kind name)
    (unless_used (first_referrer old kind name) (without kind name old)) members h)

pub history_of : (old : List Object)
    (kind : Kind) (name : List ℕ) (r : Result (List Object) RemoveError)
    → Removes r (remaining_members old kind name) → (changes : List Change) → IsCatalog changes old
    → IfOk r (λ members. IsCatalog (changes ++ Removed kind name ∷ []) members)
history_of old kind name (Err e) h changes c = tt
history_of old kind name (Ok members) h changes c =
    subst (λ ms. IsCatalog (changes ++ Removed kind name ∷ []) ms)
    (sym (left_by old members kind name h).1) (removed_kept changes old kind name c)

pub whole_of : (old members : List Object) (kind : Kind) (name : List ℕ)
    → remaining_members old kind name ≡ Ok members → CatalogIsWhole old → CatalogIsWhole members
whole_of old members kind name h whole =
    let l = left_by old members kind name h in
    subst CatalogIsWhole (sym l.1) (record {
      joined = record {
        legal = legal_removed kind name old whole.joined.legal l.0;
        ops = ops_without old kind name whole.joined.ops;
      };
      within = limits_without old kind name whole.within;
    })

-- the same of what a call gave
pub whole_by : (old members : List Object) (kind : Kind) (name : List ℕ)
    (r : Result (List Object) RemoveError) → Removes r (remaining_members old kind name)
    → r ≡ Ok members
    → CatalogIsWhole old → CatalogIsWhole members
whole_by old members kind name r h e whole =
    whole_of old members kind name
    (subst (λ x. Removes x (remaining_members old kind name)) e h) whole
