-- What contracts see of a node: a tree whose keys and texts are lists of bytes.
use Rattle.std.specs.Prelude.{ℕ, Bool, List, [], ◌∷◌}

-- A map has its entries in the text's order; `true` beside a text says that it was written plain.
mutual
  pub data Tree : Type 0 where
    mapping : Entries → Tree
    sequence : Trees → Tree
    scalar : List ℕ → Bool → Tree

  pub data Entries : Type 0 where
    no_entries : Entries
    entry : List ℕ → Tree → Entries → Entries

  pub data Trees : Type 0 where
    no_trees : Trees
    item : Tree → Trees → Trees

-- a list of trees as a tree holds it
abbrev pub trees : List Tree → Trees
trees [] = no_trees
trees (x ∷ xs) = item x (trees xs)
