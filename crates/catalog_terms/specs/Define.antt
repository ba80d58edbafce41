-- What a text's objects make of a catalog, or why they are refused.
use Rattle.std.specs.Prelude.{◌≡◌, Bool, false, not, cond, ◌&&◌, List, [], ◌∷◌, ◌++◌, Option, Some}
use Rattle.std.specs.Prelude.{None, Result, Ok, Err, find}
use Rattle.std.specs.List.{list_all, list_any}
use Rattle.std.specs.Str.{bytes_eq}
use Rattle.yaml_terms.specs.Spelling.{writing}
use Rattle.object_terms.specs.declared.object.Object.{Object}
use Rattle.object_terms.specs.Document.{written}
use Rattle.object_terms.specs.declared.kind.Kind.TheVariants as kinds
use Rattle.catalog_terms.specs.declared.fault.CatalogFault.{CatalogFault}
use Rattle.catalog_terms.specs.declared.fault.CatalogFault.TheVariants as faults
use Rattle.catalog_terms.specs.declared.fault.DefineError.{DefineError}
use Rattle.catalog_terms.specs.declared.fault.DefineError.TheVariants as errors
use Rattle.catalog_terms.specs.declared.reference.Reference.{Reference}
use Rattle.catalog_terms.specs.declared.needs_op.NeedsOp.{NeedsOp}
use Rattle.catalog_terms.specs.Keys.{is_kind, is_key, member_of}
use Rattle.catalog_terms.specs.Catalog.{with_members}
use Rattle.catalog_terms.specs.References.{is_built_in, first_unresolved}
use Rattle.catalog_terms.specs.NeedsOp.{first_needing_op}
use Rattle.catalog_terms.specs.Limits.{first_limit}

-- Objects have the same content where they are written alike.
abbrev pub is_same : Object → Object → Bool
is_same o p = bytes_eq (writing 0 (written o)) (writing 0 (written p))

-- whether an object is another than the one that was found of its kind and name
abbrev pub is_other_than : Option Object → Object → Bool
is_other_than None o = false
is_other_than (Some first) o = not (is_same first o)

-- the first of the objects that is another than the member of its kind and name
abbrev pub first_other : List Object → List Object → Option Object
first_other members objects = find (λ o. is_other_than (member_of members o.kind o.name) o) objects

-- The first of the objects that is another than the first one of its kind and name.
abbrev pub first_duplicate : List Object → Option Object
first_duplicate objects = first_other objects objects

-- whether an object is another than an earlier one of its kind and name
abbrev pub differs : List Object → Object → Bool
differs earlier o = list_any (λ p. is_key o.kind o.name p && not (is_same p o)) earlier

-- the first such object behind the earlier ones
abbrev pub first_differing : List Object → List Object → Option Object
first_differing earlier [] = None
first_differing earlier (o ∷ os) =
    cond (differs earlier o) (Some o) (first_differing (earlier ++ o ∷ []) os)

-- an alert policy with the name of one that is always there
abbrev pub is_reserved : Object → Bool
is_reserved o = is_kind o.kind kinds.AlertPolicy && is_built_in o.name

abbrev pub first_reserved : List Object → Option Object
first_reserved objects = find is_reserved objects

-- the faults that are named by what was found first
abbrev pub reserved_fault : Object → CatalogFault
reserved_fault o = faults.Reserved o.name

abbrev pub duplicate_fault : Object → CatalogFault
duplicate_fault o = faults.DuplicateInText o.kind o.name

abbrev pub unresolved_fault : Reference → CatalogFault
unresolved_fault r = faults.Unresolved r.from_kind r.from_name r.kind r.name

abbrev pub needs_op_fault : NeedsOp → CatalogFault
needs_op_fault n = faults.NeedsOp n.slo n.objective

-- a fault where something was found, or what comes of the tests behind it
abbrev pub unless : {A : Type 0} → (A → CatalogFault) → Option A → Result (List Object) CatalogFault
    → Result (List Object) CatalogFault
unless fault None rest = rest
unless fault (Some found) rest = Err (fault found)

-- the members that would be there, unless a reference of the objects names none of them, or an
-- objective lacks `op` or `value`
abbrev pub joined_members : List Object → List Object → Result (List Object) CatalogFault
joined_members members objects =
    unless unresolved_fault (first_unresolved members objects)
    (unless needs_op_fault (first_needing_op members objects) (Ok members))

-- The members that are there with the objects of a text, each of which replaces the one of its kind
-- and name; or the first fault, in the order of these lines, where each names the first place that
-- breaks its rule.
abbrev pub proposed_members : List Object → List Object → Result (List Object) CatalogFault
proposed_members old objects =
    unless reserved_fault (first_reserved objects)
    (unless duplicate_fault (first_duplicate objects)
    (joined_members (with_members objects old) objects))

-- members within the limits, or the first limit that they pass
abbrev pub within_limits : List Object → Result (List Object) CatalogFault
within_limits members = unless faults.Limit (first_limit members) (Ok members)

abbrev pub then_within : Result (List Object) CatalogFault → Result (List Object) CatalogFault
then_within (Ok members) = within_limits members
then_within (Err fault) = Err fault

-- The catalog with the objects of a text: what is proposed, where it is within the limits.
abbrev pub defined_members : List Object → List Object → Result (List Object) CatalogFault
defined_members old objects = then_within (proposed_members old objects)

-- whether an object is written as the member that was found of its kind and name
abbrev pub is_alike : Option Object → Object → Bool
is_alike None o = false
is_alike (Some p) o = is_same p o

-- A definition leaves a catalog as it is where each of its objects is written as the member of its
-- kind and name.
abbrev pub is_unchanged : List Object → List Object → Bool
is_unchanged old objects = list_all (λ o. is_alike (member_of old o.kind o.name) o) objects

-- what a call gives: what the definition gives, unless memory ran out
abbrev pub Defines : Result (List Object) DefineError → Result (List Object) CatalogFault → Type 0
Defines (Ok members) answer = answer ≡ Ok members
Defines (Err (errors.Fault fault)) answer = answer ≡ Err fault
Defines (Err errors.NoMemory) answer = Unit {0}

-- the same of a proposal: its members, and whether they are those that were there
abbrev pub Proposes : Result (List Object × Bool) DefineError
    → Result (List Object) CatalogFault → Type 0
Proposes (Ok proposal) answer = answer ≡ Ok proposal.0
Proposes (Err (errors.Fault fault)) answer = answer ≡ Err fault
Proposes (Err errors.NoMemory) answer = Unit {0}
