-- How much a catalog holds.
use Rattle.std.specs.Prelude.{ℕ, ◌+◌, nat_lt, unwrap_or, cond, List, length, Option, Some, None}
use Rattle.std.specs.Prelude.{sum_by, count_by}
use Rattle.yaml_terms.specs.Room.{up_to}
use Rattle.yaml_terms.specs.Spelling.{writing}
use Rattle.object_terms.specs.declared.kind.Kind.{Kind}
use Rattle.object_terms.specs.declared.kind.Kind.TheVariants as kinds
use Rattle.object_terms.specs.declared.object.Object.{Object}
use Rattle.object_terms.specs.Document.{written}
use Rattle.catalog_terms.specs.declared.fault.CatalogLimit.{CatalogLimit}
use Rattle.catalog_terms.specs.declared.fault.CatalogLimit.TheVariants as limits
use Rattle.slo_limits.specs.declared.TheConstants.{MAX_OBJECTS, MAX_CATALOG_BYTES, MAX_SLIS}
use Rattle.slo_limits.specs.declared.TheConstants.{MAX_SLOS, MAX_BINDINGS}
use Rattle.catalog_terms.specs.Keys.{is_kind}
use Rattle.catalog_terms.specs.Bindings.{bindings}

-- how many bytes an object's canonical writing has
abbrev pub written_bytes : Object → ℕ
written_bytes o = length (writing 0 (written o))

-- What an object weighs: these bytes, or one more than a catalog may have, where they are more than
-- it may have.
abbrev pub weight : Object → ℕ
weight o = unwrap_or (up_to MAX_CATALOG_BYTES (written_bytes o)) (MAX_CATALOG_BYTES + 1)

-- what all of them weigh together: more than a catalog may have exactly where their bytes are more
abbrev pub total_weight : List Object → ℕ
total_weight members = sum_by weight members

-- the bytes of all of them together
abbrev pub catalog_bytes : List Object → ℕ
catalog_bytes members = sum_by written_bytes members

-- how many members are of that kind
abbrev pub count_of_kind : Kind → List Object → ℕ
count_of_kind kind members = count_by (λ o. is_kind o.kind kind) members

-- a count above its limit, or what comes of the limits behind it
abbrev pub else_within : ℕ → ℕ → CatalogLimit → Option CatalogLimit → Option CatalogLimit
else_within most count limit rest = cond (nat_lt most count) (Some limit) rest

-- The first limit that the members pass, in the order of this list.
abbrev pub first_limit : List Object → Option CatalogLimit
first_limit members =
    else_within MAX_OBJECTS (length members) limits.Objects
    (else_within MAX_CATALOG_BYTES (catalog_bytes members) limits.Catalog
    (else_within MAX_SLIS (count_of_kind kinds.Sli members) limits.Slis
    (else_within MAX_SLOS (count_of_kind kinds.Slo members) limits.Slos
    (else_within MAX_BINDINGS (length (bindings members)) limits.Bindings None))))
