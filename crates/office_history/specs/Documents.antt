-- The objects of a text's documents, one document after another.
use Rattle.std.specs.Prelude.{ℕ, ◌+◌, List, [], ◌∷◌, ◌++◌, Result, Ok, Err}
use Rattle.yaml_terms.specs.Tree.{Tree}
use Rattle.object_terms.specs.Document.{objects_of}
use Rattle.object_terms.specs.declared.Object.{Object}
use Rattle.object_terms.specs.declared.ObjectFault.{ObjectFault}
use Rattle.record_form.specs.declared.Refusal.{Refusal}
use Rattle.record_form.specs.declared.Refusal.TheVariants as refusals

-- a document that stands for no objects
abbrev pub broken_document : ℕ → ObjectFault → Refusal
broken_document document fault = refusals.Object document fault.field fault.rule

-- The objects behind these of the documents from this number on; or the refusal of the first
-- document that stands for none.
abbrev pub objects_next : (List Object → Result (List Object) Refusal) → List Object → ℕ →
    Result (List Object) ObjectFault → Result (List Object) Refusal
objects_next go objects number (Ok own) = go (objects ++ own)
objects_next go objects number (Err fault) = Err (broken_document number fault)

abbrev pub objects_from : List Object → ℕ → List Tree → Result (List Object) Refusal
objects_from objects number [] = Ok objects
objects_from objects number (document ∷ rest) =
    objects_next (λ more. objects_from more (number + 1) rest) objects number (objects_of document)

-- The objects of all documents in order, the inline ones too; or the first document, counted from
-- 1, that stands for none.
abbrev pub objects_in : List Tree → Result (List Object) Refusal
objects_in documents = objects_from [] 1 documents
