-- Fields that are written one behind the other.
use Rattle.std.proofs.Common.{◌≡◌, List, [], ◌∷◌, ◌++◌, refl, ap}
use Rattle.yaml_terms.specs.Spelling.{Fields, no_fields, field, Items, no_items, one_item}
use Rattle.yaml_terms.specs.SpellingView.{is_quoted, text_of, spelling_view, fields_view}
use Rattle.yaml_terms.specs.SpellingView.{items_view}
use Rattle.yaml_terms.specs.declared.FieldKey.{FieldKey}
use Rattle.yaml_terms.specs.declared.Spelling.{Spelling as Written}
use Rattle.object_writing.specs.Adding.{before, items_before}

-- one field more
pub before_more : (ps : List (FieldKey × Written)) (p : FieldKey × Written) (behind : Fields)
    → before (ps ++ p ∷ []) behind
    ≡ before ps (field (is_quoted p.0) (text_of p.0) (spelling_view p.1) behind)
before_more [] p behind = refl
before_more (q ∷ ps) p behind =
    ap (field (is_quoted q.0) (text_of q.0) (spelling_view q.1)) (before_more ps p behind)

-- the fields of a map
pub before_none : (ps : List (FieldKey × Written)) → fields_view ps ≡ before ps no_fields
before_none [] = refl
before_none (q ∷ ps) = ap (field (is_quoted q.0) (text_of q.0) (spelling_view q.1)) (before_none ps)

-- one item more
pub items_before_more : (ss : List Written) (s : Written) (behind : Items)
    → items_before (ss ++ s ∷ []) behind ≡ items_before ss (one_item (spelling_view s) behind)
items_before_more [] s behind = refl
items_before_more (t ∷ ss) s behind =
    ap (one_item (spelling_view t)) (items_before_more ss s behind)

-- the items of a list
pub items_before_none : (ss : List Written) → items_view ss ≡ items_before ss no_items
items_before_none [] = refl
items_before_none (t ∷ ss) = ap (one_item (spelling_view t)) (items_before_none ss)
