-- Which nodes stand in a node or a text, at any depth.
use Rattle.std.specs.Prelude.{ℕ, List, Contains}
use Rattle.yaml_terms.specs.Tree.{Tree, mapping, sequence, Entries, entry, Trees, item}
use Rattle.yaml_terms.specs.Text.{StandsFor}

-- A node stands in itself, and in each map or list that has an entry's value or an item in
-- which it stands.
mutual
  pub data IsIn (x : Tree) : Tree → Type 0 where
    itself : IsIn x x
    in_map : (es : Entries) → IsInEntries x es → IsIn x (mapping es)
    in_list : (xs : Trees) → IsInItems x xs → IsIn x (sequence xs)

  pub data IsInEntries (x : Tree) : Entries → Type 0 where
    first_entry : (k : List ℕ) (y : Tree) (es : Entries) → IsIn x y → IsInEntries x (entry k y es)
    later_entry : (k : List ℕ) (y : Tree) (es : Entries) → IsInEntries x es
        → IsInEntries x (entry k y es)

  pub data IsInItems (x : Tree) : Trees → Type 0 where
    first_item : (y : Tree) (xs : Trees) → IsIn x y → IsInItems x (item y xs)
    later_item : (y : Tree) (xs : Trees) → IsInItems x xs → IsInItems x (item y xs)

-- The text stands for documents, and the node stands in one of them.
pub record StandsIn (text : List ℕ) (x : Tree) : Type 0 where
  pub documents : List Tree
  pub are_documents : StandsFor text documents
  pub document : Tree
  pub among : Contains documents document
  pub inside : IsIn x document
