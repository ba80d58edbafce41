-- What is kept of an object of a catalog.
use Rattle.std.specs.Prelude.{◌≡◌, ℕ}
use Rattle.object_terms.specs.declared.object.Object.{Object}
use Rattle.object_terms.specs.Document.{IsOfDocument}
use Rattle.catalog_terms.specs.Limits.{weight}

-- an object of a document, and what it weighs
pub record IsWeighed (o : Object) (bytes : ℕ) : Type 0 where
  pub written : IsOfDocument o
  pub exact : bytes ≡ weight o
