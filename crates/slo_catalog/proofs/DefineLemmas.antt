-- What a definition that isn't refused makes of a catalog.
use Rattle.std.proofs.Common.{◌≡◌, List, ◌++◌, map, Option, Some, None, Result, Ok, Err, IfOk}
use Rattle.std.proofs.Common.{is_ok, refl, sym, ap, subst, true≢false}
use Rattle.object_terms.specs.declared.object.Object.{Object}
use Rattle.catalog_terms.specs.declared.fault.CatalogFault.{CatalogFault}
use Rattle.catalog_terms.specs.declared.fault.CatalogFault.TheVariants as faults
use Rattle.catalog_terms.specs.declared.fault.DefineError.{DefineError}
use Rattle.catalog_terms.specs.Keys.{IsSorted}
use Rattle.catalog_terms.specs.Catalog.{Change, Defined, IsCatalog, with_members}
use Rattle.catalog_terms.specs.References.{first_unresolved, IsLegal}
use Rattle.slo_catalog.specs.Whole.{IsJoined, CatalogIsWhole}
use Rattle.catalog_terms.specs.NeedsOp.{first_needing_op}
use Rattle.catalog_terms.specs.Limits.{first_limit}
use Rattle.catalog_terms.specs.Define.{unless, reserved_fault, duplicate_fault, unresolved_fault}
use Rattle.catalog_terms.specs.Define.{needs_op_fault, first_reserved, first_duplicate}
use Rattle.catalog_terms.specs.Define.{joined_members, proposed_members, within_limits, then_within}
use Rattle.catalog_terms.specs.Define.{defined_members, Defines}
use Rattle.slo_catalog.proofs.LegalLemmas.{legal_defined}
use Rattle.slo_catalog.proofs.WholeLemmas.{ops_of_none}
use Rattle.slo_catalog.proofs.HistoryLemmas.{all_defined}

-- nothing was found where the tests behind it gave members
not_refused : {A : Type 0} (fault : A → CatalogFault)
    (found : Option A) (rest : Result (List Object) CatalogFault) (members : List Object)
    → unless fault found rest ≡ Ok members → (found ≡ None) × (rest ≡ Ok members)
not_refused fault None rest members h = (refl, h)
not_refused fault (Some x) rest members h = absurd (true≢false (sym (ap is_ok h)))

abbrev ok_of : List Object → Result (List Object) CatalogFault → List Object
ok_of other (Ok members) = members
ok_of other (Err fault) = other

pub record IsProposed (old objects members : List Object) : Type 0 where
  pub resolved : first_unresolved (with_members objects old) objects ≡ None
  pub ops : first_needing_op (with_members objects old) objects ≡ None
  pub members_are : members ≡ with_members objects old

pub proposed_of : (old objects members : List Object) → proposed_members old objects ≡ Ok members
    → IsProposed old objects members
proposed_of old objects members h =
    let all : List Object = with_members objects old in
    let a = not_refused reserved_fault (first_reserved objects) _ members h in
    let b = not_refused duplicate_fault (first_duplicate objects)
    (joined_members all objects) members a.1 in
    let c = not_refused unresolved_fault (first_unresolved all objects) _ members b.1 in
    let d = not_refused needs_op_fault (first_needing_op all objects) (Ok all) members c.1 in
    record { resolved = c.0; ops = d.0; members_are = sym (ap (ok_of members) d.1) }

-- what is within the limits was proposed
proposed_by : (r : Result (List Object) CatalogFault) (members : List Object)
    → then_within r ≡ Ok members → r ≡ Ok members
proposed_by (Err fault) members h = absurd (true≢false (sym (ap is_ok h)))
proposed_by (Ok all) members h = (not_refused faults.Limit (first_limit all) (Ok all) members h).1

pub history_of : (old objects : List Object) (r : Result (List Object) DefineError)
    → Defines r (defined_members old objects) → (changes : List Change) → IsCatalog changes old
    → IfOk r (λ members. IsCatalog (changes ++ map Defined objects) members)
history_of old objects (Ok members) h changes c =
    subst (λ ms. IsCatalog (changes ++ map Defined objects) ms)
    (sym (proposed_of old objects members
    (proposed_by (proposed_members old objects) members h)).members_are)
    (all_defined objects old changes c)
history_of old objects (Err e) h changes c = tt

pub joined_of : (old objects members : List Object) → proposed_members old objects ≡ Ok members
    → IsSorted old → IsLegal old → IsJoined members
joined_of old objects members h s legal =
    let a = proposed_of old objects members h in
    subst IsJoined (sym a.members_are) (record {
      legal = legal_defined objects old s legal a.resolved;
      ops = ops_of_none (with_members objects old) objects a.ops;
    })

-- the same of what a call gave
pub joined_by : (old objects members : List Object) (r : Result (List Object) DefineError)
    → Defines r (proposed_members old objects) → r ≡ Ok members → IsSorted old → IsLegal old
    → IsJoined members
joined_by old objects members r h e s legal =
    joined_of old objects members
    (subst (λ x. Defines x (proposed_members old objects)) e h) s legal

-- what a call gave that looked for limits
pub within_by : (members after : List Object) (r : Result (List Object) DefineError)
    → Defines r (within_limits members) → r ≡ Ok after → IsJoined members → CatalogIsWhole after
within_by members after r h e joined =
    let told : within_limits members ≡ Ok after =
    subst (λ x. Defines x (within_limits members)) e h in
    let n = not_refused faults.Limit (first_limit members) (Ok members) after told in
    subst CatalogIsWhole (ap (ok_of members) n.1) (record { joined = joined; within = n.0 })
