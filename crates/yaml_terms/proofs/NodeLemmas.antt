-- What is seen of a node, by its variants.
use Rattle.std.proofs.Common.{◌≡◌, ◌∙◌, ℕ, ◌+◌, ◌<◌, ◌≤◌, length, take, get_or, List, [], ◌∷◌, ◌++◌}
use Rattle.std.proofs.Common.{Bool, map, Vec, Global, sym, ap, rules}
use Rattle.std.proofs.lemmas.List.{map_more, map_push, take_all}
use Rattle.yaml_terms.specs.Tree.{mapping, sequence, scalar, trees}
use Rattle.yaml_terms.specs.NodeView.{node_view, entries_of, fields_view}
use Rattle.yaml_terms.specs.declared.text.ScalarText.{ScalarText}
use Rattle.yaml_terms.specs.declared.node.Node.{Node, Map, List as Items, Scalar, the_lemmas}

pub view-Scalar : (text : ScalarText) (plain : Bool)
    → node_view (Scalar text plain) ≡ scalar text plain
view-Scalar text plain = search (rules, the_lemmas)

pub view-List : (v : Vec Node Global)
    → node_view (Items v) ≡ sequence (trees (map node_view v.items))
view-List v = search (rules, the_lemmas)

pub view-Map : (v : Vec (ScalarText × Node) Global)
    → node_view (Map v) ≡ mapping (entries_of (map (λ p. (p.0, node_view p.1)) v.items))
view-Map v = search (rules, the_lemmas)

-- maps with the same entries are seen alike
pub same_map : (a b : Vec (ScalarText × Node) Global) → fields_view a.items ≡ fields_view b.items
    → node_view (Map a) ≡ node_view (Map b)
same_map a b e = view-Map a ∙ ap (λ es. mapping (entries_of es)) e ∙ sym (view-Map b)

-- one scalar more
pub nodes_push : (xs : List Node) (text : ScalarText) (plain : Bool)
    → map node_view (xs ++ Scalar text plain ∷ []) ≡ map node_view xs ++ scalar text plain ∷ []
nodes_push xs text plain = map_push node_view xs (Scalar text plain)
    ∙ ap (λ t. map node_view xs ++ t ∷ []) (view-Scalar text plain)

-- lists with the same items are seen alike
pub same_list : (a b : Vec Node Global) → map node_view a.items ≡ map node_view b.items
    → node_view (Items a) ≡ node_view (Items b)
same_list a b e = view-List a ∙ ap (λ xs. sequence (trees xs)) e ∙ sym (view-List b)

module _ {X Y : Type 0} (f : X → Y) where
  -- one copy more, of the next of those that are copied
  pub copied_more : (xs ys zs : List X) (i : ℕ) (new d : X) → i < length ys
      → map f xs ≡ map f (take i ys) → zs ≡ xs ++ new ∷ [] → f new ≡ f (get_or ys i d)
      → map f zs ≡ map f (take (i + 1) ys)
  copied_more xs ys zs i new d h so pushed same =
      ap (map f) pushed ∙ map_push f xs new ∙ ap (λ (l : List Y). l ++ f new ∷ []) so
      ∙ ap (λ (y : Y). map f (take i ys) ++ y ∷ []) same ∙ sym (map_more f ys i d h)

  pub copied_all : (xs ys : List X) (i : ℕ) → length ys ≤ i → map f xs ≡ map f (take i ys)
      → map f xs ≡ map f ys
  copied_all xs ys i h so = so ∙ ap (map f) (take_all i ys h)
