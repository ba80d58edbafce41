-- A node is stored as a tree of numbers, from which it is got back.
use Rattle.std.specs.Prelude.{◌≡◌, ℕ, zero, suc, true, false, List, [], ◌∷◌, refl}
use Rattle.std.specs.Coded.{Coded}
use Rattle.std.proofs.Common.{ap, sym, ◌∙◌}
use base.Stored.{Gv, gnil, gnum, gcons}
use Rattle.yaml_terms.specs.Tree.{Tree, mapping, sequence, scalar, Entries, no_entries, entry}
use Rattle.yaml_terms.specs.Tree.{Trees, no_trees, item}

abbrev bytes_code : List ℕ → Gv
bytes_code [] = gnil
bytes_code (b ∷ bs) = gcons (gnum b) (bytes_code bs)

abbrev number_back : Gv → ℕ
number_back (gnum n) = n
number_back gnil = 0
number_back (gcons a b) = 0

abbrev bytes_back : Gv → List ℕ
bytes_back gnil = []
bytes_back (gnum n) = []
bytes_back (gcons a b) = number_back a ∷ bytes_back b

bytes_again : (bs : List ℕ) → bytes_back (bytes_code bs) ≡ bs
bytes_again [] = refl
bytes_again (b ∷ bs) = ap (λ r. b ∷ r) (bytes_again bs)

abbrev mutual
  tree_code : Tree → Gv
  tree_code (scalar text true) = gcons (gnum 0) (bytes_code text)
  tree_code (scalar text false) = gcons (gnum 1) (bytes_code text)
  tree_code (mapping es) = gcons (gnum 2) (entries_code es)
  tree_code (sequence ts) = gcons (gnum 3) (trees_code ts)

  entries_code : Entries → Gv
  entries_code no_entries = gnil
  entries_code (entry k t es) = gcons (gcons (bytes_code k) (tree_code t)) (entries_code es)

  trees_code : Trees → Gv
  trees_code no_trees = gnil
  trees_code (item t ts) = gcons (tree_code t) (trees_code ts)

-- what a tree of numbers stands for where a node, a node's entries, its items, or an
-- entry is wanted
pub record Back : Type 0 where
  pub tree : Tree
  pub entries : Entries
  pub trees : Trees
  pub key : List ℕ
  pub child : Tree

abbrev nothing : Back
nothing = record {
  tree = scalar [] true;
  entries = no_entries;
  trees = no_trees;
  key = [];
  child = scalar [] true;
}

abbrev tree_by : ℕ → List ℕ → Back → Tree
tree_by zero bytes b = scalar bytes true
tree_by (suc zero) bytes b = scalar bytes false
tree_by (suc (suc zero)) bytes b = mapping b.entries
tree_by (suc (suc (suc n))) bytes b = sequence b.trees

abbrev joined : Gv → Gv → Back → Back → Back
joined a b first rest = record {
  tree = tree_by (number_back a) (bytes_back b) rest;
  entries = entry first.key first.child rest.entries;
  trees = item first.tree rest.trees;
  key = bytes_back a;
  child = rest.tree;
}

abbrev back : Gv → Back
back gnil = nothing
back (gnum n) = nothing
back (gcons a b) = joined a b (back a) (back b)

mutual
  pub tree_again : (t : Tree) → (back (tree_code t)).tree ≡ t
  tree_again (scalar text true) = ap (λ bs. scalar bs true) (bytes_again text)
  tree_again (scalar text false) = ap (λ bs. scalar bs false) (bytes_again text)
  tree_again (mapping es) = ap mapping (entries_again es)
  tree_again (sequence ts) = ap sequence (trees_again ts)

  entries_again : (es : Entries) → (back (entries_code es)).entries ≡ es
  entries_again no_entries = refl
  entries_again (entry k t es) =
      ap (λ key. entry key (back (tree_code t)).tree (back (entries_code es)).entries)
      (bytes_again k)
      ∙ (ap (λ child. entry k child (back (entries_code es)).entries) (tree_again t)
      ∙ ap (entry k t) (entries_again es))

  trees_again : (ts : Trees) → (back (trees_code ts)).trees ≡ ts
  trees_again no_trees = refl
  trees_again (item t ts) =
      ap (λ first. item first (back (trees_code ts)).trees) (tree_again t)
      ∙ ap (item t) (trees_again ts)

abbrev pub coded_tree : Coded Tree
coded_tree = record {
  code = tree_code;
  inj = λ x y e. sym (tree_again x) ∙ (ap (λ g. (back g).tree) e ∙ tree_again y);
}
