-- What contracts see of a map's fields while they are written one behind the other.
use Rattle.std.specs.Prelude.{◌≡◌, List, [], ◌∷◌}
use Rattle.yaml_terms.specs.Spelling.{Fields, field, Items, one_item}
use Rattle.yaml_terms.specs.SpellingView.{is_quoted, text_of, spelling_view}
use Rattle.yaml_terms.specs.declared.FieldKey.{FieldKey}
use Rattle.yaml_terms.specs.declared.Spelling.{Spelling as Written}

-- these fields, and others behind them
abbrev pub before : List (FieldKey × Written) → Fields → Fields
before [] behind = behind
before (p ∷ ps) behind = field (is_quoted p.0) (text_of p.0) (spelling_view p.1) (before ps behind)

-- a line of a table comes behind the fields that stand already
abbrev pub Adds : List (FieldKey × Written) → List (FieldKey × Written) → (Fields → Fields) → Type 0
Adds old new line = (behind : Fields) → before new behind ≡ before old (line behind)

-- these items, and others behind them
abbrev pub items_before : List Written → Items → Items
items_before [] behind = behind
items_before (s ∷ ss) behind = one_item (spelling_view s) (items_before ss behind)
