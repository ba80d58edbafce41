-- What is answered for a text that can be defined, as a history says it.
use Rattle.std.specs.Prelude.{ℕ, List}
use Rattle.office_history.specs.Definitions.{Definition, IsDefinition as IsDefinedAs, Known}
use Rattle.definition_verdict.specs.declared.definition.Definition.{Definition as Answered}

-- the members of the catalog that is answered, and what stands beside it
abbrev pub in_words : Answered → Definition
in_words made = record {
  catalog = made.catalog;
  documents = made.documents;
  objects = made.objects;
  same = made.same;
}

abbrev pub IsDefinition : Known → List ℕ → Answered → Type 0
IsDefinition known text made = IsDefinedAs known text (in_words made)
