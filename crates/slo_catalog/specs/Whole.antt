-- What holds of each catalog, whatever its history.
use Rattle.std.specs.Prelude.{◌≡◌, List, None}
use Rattle.std.specs.List.{AllByRecursion}
use Rattle.object_terms.specs.declared.object.Object.{Object}
use Rattle.catalog_terms.specs.References.{IsLegal}
use Rattle.catalog_terms.specs.NeedsOp.{needing_op}
use Rattle.catalog_terms.specs.Limits.{first_limit}

-- no objective of an SLO over values lacks `op` or `value`
abbrev pub HaveOps : List Object → Type 0
HaveOps members = AllByRecursion (λ o. needing_op members o ≡ None) members

-- Each reference names a member or a built-in policy, and objectives over values have their
-- `op` and `value`.
pub record IsJoined (members : List Object) : Type 0 where
  pub legal : IsLegal members
  pub ops : HaveOps members

-- That, and no limit is passed.
pub record CatalogIsWhole (members : List Object) : Type 0 where
  pub joined : IsJoined members
  pub within : first_limit members ≡ None
