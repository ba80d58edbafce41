-- Values as they are written, level by level.
use Rattle.std.proofs.Common.{◌≡◌, ℕ, ◌+◌, ◌<◌, length, take, get_or, add-one, take-suc, true}
use Rattle.std.proofs.Common.{false, List, [], ◌∷◌, ◌++◌, map, Vec, Global, refl, sym, ap, ◌∙◌}
use Rattle.std.proofs.Common.{rules}
use Rattle.yaml_terms.specs.Tree.{Tree, scalar, trees}
use Rattle.yaml_terms.specs.Spelling.{Spelling, word, quoted, fields, items, Fields, no_fields}
use Rattle.yaml_terms.specs.Spelling.{field, Items as Listed, no_items, one_item, meant}
use Rattle.yaml_terms.specs.Spelling.{entries_meant, items_meant, spelled, fields_spelled}
use Rattle.yaml_terms.specs.Spelling.{items_spelled}
use Rattle.yaml_terms.specs.Tree.{mapping, sequence, Entries, no_entries, entry, Trees, no_trees}
use Rattle.yaml_terms.specs.Tree.{item}
use Rattle.yaml_terms.specs.NodeView.{node_view}
use Rattle.yaml_terms.specs.SpellingView.{is_quoted, text_of, spelling_view, fields_view}
use Rattle.yaml_terms.specs.SpellingView.{items_view, entries_view}
use Rattle.yaml_terms.specs.declared.ScalarText.{ScalarText}
use Rattle.yaml_terms.specs.declared.Node.{Node}
use Rattle.yaml_terms.specs.declared.FieldKey.{FieldKey}
use Rattle.yaml_terms.specs.declared.Spelling.{Spelling as Written, Word}
use Rattle.yaml_terms.specs.declared.Spelling.{Quoted as InQuotes, Fields as Fielded}
use Rattle.yaml_terms.specs.declared.Spelling.{Items, the_lemmas}

pub view-Word : (text : ScalarText) → spelling_view (Word text) ≡ word text
view-Word text = search (rules, the_lemmas)

pub view-Quoted : (text : ScalarText) → spelling_view (InQuotes text) ≡ quoted text
view-Quoted text = search (rules, the_lemmas)

pub view-Fields : (v : Vec (FieldKey × Written) Global)
    → spelling_view (Fielded v) ≡ fields (fields_view v.items)
view-Fields v = search (rules, the_lemmas)

pub view-Items : (v : Vec Written Global) → spelling_view (Items v) ≡ items (items_view v.items)
view-Items v = search (rules, the_lemmas)

-- the first elements of a list, and one more
pub take_one : {A : Type 0} (xs : List A) (i : ℕ) (x : A) → i < length xs → x ≡ get_or xs i x
    → take (i + 1) xs ≡ take i xs ++ (x ∷ [])
take_one xs i x h e = rw add-one (take-suc xs i x h) ∙ ap (λ y. take i xs ++ (y ∷ [])) (sym e)

-- one field or item more
abbrev fields_joined : Fields → Fields → Fields
fields_joined no_fields gs = gs
fields_joined (field q k s fs) gs = field q k s (fields_joined fs gs)

written_fields_joined : (ps : List (FieldKey × Written)) (p : FieldKey × Written)
    → fields_view (ps ++ (p ∷ [])) ≡ fields_joined (fields_view ps) (fields_view (p ∷ []))
written_fields_joined [] p = refl
written_fields_joined (q ∷ ps) p =
    ap (field (is_quoted q.0) (text_of q.0) (spelling_view q.1)) (written_fields_joined ps p)

entries_joined : (es : List (ScalarText × Node)) (e : ScalarText × Node)
    → fields_spelled (entries_view (es ++ (e ∷ [])))
    ≡ fields_joined (fields_spelled (entries_view es)) (fields_spelled (entries_view (e ∷ [])))
entries_joined [] e = refl
entries_joined (d ∷ es) e = ap (field true d.0 (spelled (node_view d.1))) (entries_joined es e)

pub fields_more : (ps : List (FieldKey × Written)) (es : List (ScalarText × Node))
    (p : FieldKey × Written) (e : ScalarText × Node)
    → fields_view ps ≡ fields_spelled (entries_view es)
    → fields_view (p ∷ []) ≡ fields_spelled (entries_view (e ∷ []))
    → fields_view (ps ++ (p ∷ [])) ≡ fields_spelled (entries_view (es ++ (e ∷ [])))
fields_more ps es p e h i = written_fields_joined ps p
    ∙ ap (λ (fs : Fields). fields_joined fs (fields_view (p ∷ []))) h
    ∙ ap (fields_joined (fields_spelled (entries_view es))) i ∙ sym (entries_joined es e)

abbrev items_joined : Listed → Listed → Listed
items_joined no_items js = js
items_joined (one_item s is) js = one_item s (items_joined is js)

written_items_joined : (ss : List Written) (s : Written)
    → items_view (ss ++ (s ∷ [])) ≡ items_joined (items_view ss) (items_view (s ∷ []))
written_items_joined [] s = refl
written_items_joined (t ∷ ss) s = ap (one_item (spelling_view t)) (written_items_joined ss s)

nodes_joined : (xs : List Node) (x : Node)
    → items_spelled (trees (map node_view (xs ++ (x ∷ [])))) ≡ items_joined
    (items_spelled (trees (map node_view xs))) (items_spelled (trees (map node_view (x ∷ []))))
nodes_joined [] x = refl
nodes_joined (y ∷ xs) x = ap (one_item (spelled (node_view y))) (nodes_joined xs x)

pub items_more : (ss : List Written) (xs : List Node) (s : Written) (x : Node)
    → items_view ss ≡ items_spelled (trees (map node_view xs))
    → spelling_view s ≡ spelled (node_view x)
    → items_view (ss ++ (s ∷ [])) ≡ items_spelled (trees (map node_view (xs ++ (x ∷ []))))
items_more ss xs s x h i = written_items_joined ss s
    ∙ ap (λ (is : Listed). items_joined is (items_view (s ∷ []))) h ∙ ap (λ (t : Spelling).
    items_joined (items_spelled (trees (map node_view xs))) (one_item t no_items)) i
    ∙ sym (nodes_joined xs x)

-- a value stands for the node that it was made of
mutual
  pub spelled_meant : (x : Tree) → meant (spelled x) ≡ x
  spelled_meant (mapping es) = ap mapping (entries_spelled_meant es)
  spelled_meant (sequence xs) = ap sequence (items_spelled_meant xs)
  spelled_meant (scalar text true) = refl
  spelled_meant (scalar text false) = refl

  entries_spelled_meant : (es : Entries) → entries_meant (fields_spelled es) ≡ es
  entries_spelled_meant no_entries = refl
  entries_spelled_meant (entry k x es) = rw (spelled_meant x, entries_spelled_meant es) refl

  items_spelled_meant : (xs : Trees) → items_meant (items_spelled xs) ≡ xs
  items_spelled_meant no_trees = refl
  items_spelled_meant (item x xs) = rw (spelled_meant x, items_spelled_meant xs) refl
