-- The bodies of a text's objects are of their kinds, since those of all documents are.
use Rattle.std.proofs.Common.{◌≡◌, ℕ, List, [], ◌∷◌}
use Rattle.std.specs.List.{AllByRecursion}
use Rattle.std.proofs.lemmas.List.Elements.{recursion_from_All}
use Rattle.yaml_terms.specs.SpellingFits.{IsWritable}
use Rattle.yaml_terms.specs.Text.{StandsFor}
use Rattle.yaml_terms.specs.Tree.{Tree}
use Rattle.object_terms.specs.declared.Object.{Object}
use Rattle.object_terms.specs.Document.{IsOfDocument}
use Rattle.definition_verdict.proofs.DocumentLemmas.{all_of_documents}
use Rattle.catalog_changes.specs.Kinds.{HasKind, TextsHaveKinds}

each_kind : ((o : Object) → IsOfDocument o → HasKind o) → (os : List Object)
    → AllByRecursion IsOfDocument os → AllByRecursion HasKind os
each_kind law [] h = tt
each_kind law (o ∷ os) h = (law o h.0, each_kind law os h.1)

pub kinds_of_texts : ((text : List ℕ) (documents : List Tree) → StandsFor text documents
    → AllByRecursion IsWritable documents)
    → ((o : Object) → IsOfDocument o → HasKind o) → TextsHaveKinds
kinds_of_texts writable law text documents objects stands read =
    each_kind law objects (recursion_from_All IsOfDocument objects
    (all_of_documents documents objects (writable text documents stands) read))
