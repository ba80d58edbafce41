-- The bodies of a text's objects are of their kinds (OpenSLO v1, general schema:
-- `kind` and `spec`).
use Rattle.std.specs.Prelude.{◌≡◌, ℕ, List, Ok}
use Rattle.std.specs.List.{AllByRecursion}
use Rattle.yaml_terms.specs.Text.{StandsFor}
use Rattle.yaml_terms.specs.Tree.{Tree}
use Rattle.object_terms.specs.declared.Object.{Object}
use Rattle.office_history.specs.Documents.{objects_in}
use Rattle.object_laws.specs.Kinds.{kind_of}

-- the body is of the object's kind
abbrev pub HasKind : Object → Type 0
HasKind o = kind_of o.body ≡ o.kind

abbrev pub TextsHaveKinds : Type 0
TextsHaveKinds = (text : List ℕ) (documents : List Tree) (objects : List Object) →
    StandsFor text documents → objects_in documents ≡ Ok objects → AllByRecursion HasKind objects
