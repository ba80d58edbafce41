-- What contracts see of a value as it is written.
use Rattle.std.specs.Prelude.{ℕ, Bool, true, false, List, [], ◌∷◌, map}
use Rattle.yaml_terms.specs.Tree.{Entries}
use Rattle.yaml_terms.specs.Spelling.{Spelling, word, quoted, fields, items, Fields, no_fields}
use Rattle.yaml_terms.specs.Spelling.{field, Items, no_items, one_item}
use Rattle.yaml_terms.specs.NodeView.{node_view, entries_of}
use Rattle.yaml_terms.specs.declared.text.ScalarText.{ScalarText}
use Rattle.yaml_terms.specs.declared.node.Node.{Node}
use Rattle.yaml_terms.specs.declared.spelling.FieldKey.{FieldKey}
use Rattle.yaml_terms.specs.declared.spelling.FieldKey.TheVariants.{Plain, Quoted as InQuotes}
use Rattle.yaml_terms.specs.declared.spelling.Spelling.{Spelling as Written, fold-Spelling}
use Rattle.yaml_terms.specs.declared.spelling.Spelling.TheOpen.{Spelling-F}

-- whether a key stands in double quotes, and its text
abbrev pub is_quoted : FieldKey → Bool
is_quoted (Plain text) = false
is_quoted (InQuotes text) = true

abbrev pub text_of : FieldKey → List ℕ
text_of (Plain text) = text
text_of (InQuotes text) = text

abbrev pub fields_of : List (FieldKey × Spelling) → Fields
fields_of [] = no_fields
fields_of (p ∷ ps) = field (is_quoted p.0) (text_of p.0) p.1 (fields_of ps)

abbrev pub items_of : List Spelling → Items
items_of [] = no_items
items_of (s ∷ ss) = one_item s (items_of ss)

-- one level, with each value inside already seen
abbrev pub spelling_step : Spelling-F Spelling → Spelling
spelling_step (Spelling-F.Word text) = word text
spelling_step (Spelling-F.Quoted text) = quoted text
spelling_step (Spelling-F.Fields v) = fields (fields_of v.items)
spelling_step (Spelling-F.Items v) = items (items_of v.items)

abbrev pub spelling_view : Written → Spelling
spelling_view = fold-Spelling Spelling spelling_step

abbrev pub fields_view : List (FieldKey × Written) → Fields
fields_view ps = fields_of (map (λ p. (p.0, spelling_view p.1)) ps)

abbrev pub items_view : List Written → Items
items_view ss = items_of (map spelling_view ss)

abbrev pub entries_view : List (ScalarText × Node) → Entries
entries_view es = entries_of (map (λ p. (p.0, node_view p.1)) es)

-- the plain scalar of no text, which is written as nothing
abbrev pub is_no_text : Spelling → Bool
is_no_text (word []) = true
is_no_text _ = false

-- a map or list that isn't empty, which has lines of its own behind a key
abbrev pub has_lines : Spelling → Bool
has_lines (fields (field q k s fs)) = true
has_lines (items (one_item s is)) = true
has_lines _ = false
