-- The catalog of a history: the last definition of each kind and name that wasn't removed since.
use Rattle.std.specs.Prelude.{ℕ, List, [], ◌∷◌, fold, map, Option, Some, None, Result, Ok, Err}
use Rattle.std.specs.List.{flat_map}
use Rattle.std.specs.Str.Lines.{lines}
use Rattle.yaml_terms.specs.Tree.{Tree}
use Rattle.yaml_terms.specs.Text.{nodes_of, without_mark}
use Rattle.object_terms.specs.Document.{objects_of}
use Rattle.object_terms.specs.declared.Object.{Object}
use Rattle.object_terms.specs.declared.ObjectFault.{ObjectFault}
use Rattle.catalog_terms.specs.Catalog.{Change, Defined, Removed, with_member, without}
use Rattle.record_form.specs.declared.Command.{Command}
use Rattle.record_form.specs.declared.Command.TheVariants.{Define, Remove}
use Rattle.record_form.specs.declared.Entry.{Entry}

abbrev pub or_none : Result (List Object) ObjectFault → List Object
or_none (Ok objects) = objects
or_none (Err fault) = []

abbrev pub objects_in : Option (List Tree) → List Object
objects_in None = []
objects_in (Some documents) = flat_map (λ document. or_none (objects_of document)) documents

-- The objects of a text that stands for documents: those of each document, the inline ones too.
unfoldable pub text_objects : List ℕ → List Object
text_objects text = objects_in (nodes_of (lines (without_mark text)))

abbrev pub definitions_of : Command → List Change
definitions_of (Define text) = map Defined (text_objects text)
definitions_of (Remove kind name) = Removed kind name ∷ []
definitions_of _ = []

-- the definitions and removals of objects, in order
abbrev pub definitions_in : List Entry → List Change
definitions_in history = flat_map (λ (e : Entry). definitions_of e.command) history

-- a definition puts its object in the place of its kind and name, a removal takes it away
abbrev pub members_after : List Object → Change → List Object
members_after members (Defined o) = with_member o members
members_after members (Removed kind name) = without kind name members

-- the objects of the catalog, sorted by kind and name
abbrev pub catalog_in : List Entry → List Object
catalog_in history = fold members_after [] (definitions_in history)
