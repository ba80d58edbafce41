-- What a removal makes of a catalog, or why it is refused.
use Rattle.std.specs.Prelude.{◌≡◌, ℕ, List, Option, Some, None, Result, Ok, Err}
use Rattle.object_terms.specs.declared.kind.Kind.{Kind}
use Rattle.object_terms.specs.declared.object.Object.{Object}
use Rattle.catalog_terms.specs.declared.fault.RemoveFault.{RemoveFault}
use Rattle.catalog_terms.specs.declared.fault.RemoveFault.TheVariants as faults
use Rattle.catalog_terms.specs.declared.fault.RemoveError.{RemoveError}
use Rattle.catalog_terms.specs.declared.fault.RemoveError.TheVariants as errors
use Rattle.catalog_terms.specs.Keys.{member_of}
use Rattle.catalog_terms.specs.Catalog.{without}
use Rattle.catalog_terms.specs.References.{first_referrer}

-- what is left where no member refers to what is removed
abbrev pub unless_used : Option Object → List Object → Result (List Object) RemoveFault
unless_used None left = Ok left
unless_used (Some user) left = Err (faults.InUse user.kind user.name)

abbrev pub where_found : Option Object → Result (List Object) RemoveFault
    → Result (List Object) RemoveFault
where_found None rest = Err faults.NotFound
where_found (Some o) rest = rest

-- The catalog without the object of that kind and name; or that there is none; or the first member
-- that refers to it.
abbrev pub remaining_members : List Object → Kind → List ℕ → Result (List Object) RemoveFault
remaining_members old kind name = where_found (member_of old kind name)
    (unless_used (first_referrer old kind name) (without kind name old))

-- what a call gives: what the definition gives, unless memory ran out
abbrev pub Removes : Result (List Object) RemoveError → Result (List Object) RemoveFault → Type 0
Removes (Ok members) answer = answer ≡ Ok members
Removes (Err (errors.Fault fault)) answer = answer ≡ Err fault
Removes (Err errors.NoMemory) answer = Unit {0}
