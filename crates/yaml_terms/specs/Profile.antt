-- Which nodes marks stand for: the block productions of YAML 1.2.2 (section 8.2), read from
-- the outside in.
use Rattle.std.specs.Prelude.{ℕ, zero, suc, ◌==◌, nat_lt, nat_le, Bool, true, false, List, [], ◌∷◌}
use Rattle.std.specs.Prelude.{◌++◌, Option, Some, None, cond, map, option_map, option_and_then}
use Rattle.std.specs.List.{list_any}
use Rattle.std.specs.Str.{bytes_eq}
use Rattle.yaml_terms.specs.Tree.{Tree, mapping, sequence, scalar, Entries, no_entries, entry}
use Rattle.yaml_terms.specs.Tree.{no_trees, trees}
use Rattle.yaml_terms.specs.Mark.{Mark, start, dash, key, value, header, raw, Child}
use Rattle.yaml_terms.specs.Block.{block_text}
use Rattle.yaml_terms.specs.declared.node.TheConstants.{MAX_DEPTH}

-- How deep maps and lists are nested at most, the root's node being 1.
abbrev pub max_depth : ℕ
max_depth = MAX_DEPTH

-- a node that begins at column n may stand behind this mark: at the root anywhere, else deeper than
-- its key or dash
abbrev pub is_deeper : Mark → ℕ → Bool
is_deeper (key m _) n = nat_lt m n
is_deeper (dash m) n = nat_lt m n
is_deeper start n = true
is_deeper _ n = false

-- a node that begins with the second mark may stand behind the first; a list also at its key's own
-- column (section 8.2.1)
abbrev pub has_room : Mark → Mark → Bool
has_room (key m _) (dash n) = nat_le m n
has_room h (dash n) = is_deeper h n
has_room h (key n _) = is_deeper h n
has_room h (value n _) = is_deeper h n
has_room h (header n _) = is_deeper h n
has_room h _ = false

-- The entries of a map, the items of a list, the documents of a text:
-- each begins with a mark of its own, and has the marks up to the next such mark.
pub data Pieces : Type 0 where
  last_piece : Mark → List Mark → Pieces
  piece : Mark → List Mark → Pieces → Pieces

-- the second mark begins the entry, item or document after the one that begins with the first
abbrev pub is_next : Mark → Mark → Bool
is_next start start = true
is_next (dash n) (dash m) = n == m
is_next (key n _) (key m _) = n == m
is_next _ _ = false

abbrev pub with_first : Mark → Pieces → Pieces
with_first m (last_piece h ms) = last_piece h (m ∷ ms)
with_first m (piece h ms ps) = piece h (m ∷ ms) ps

-- the marks behind the first one, cut before each that begins the next piece
abbrev pub pieces : Mark → List Mark → Pieces
pieces h [] = last_piece h []
pieces h (m ∷ ms) = cond (is_next h m) (piece h [] (pieces m ms)) (with_first m (pieces h ms))

-- a value left out is the plain scalar of no text
abbrev pub no_text : Tree
no_text = scalar [] true

abbrev pub or_no_text : Option Tree → Tree
or_no_text (Some x) = x
or_no_text None = no_text

-- One more entry, item or document. A document without a node is passed over.
-- READS OTHERWISE than YAML 1.2.2, where a document without content, after `---`, is a null node.
abbrev pub with_child : List Child → Mark → Option Tree → List Child
with_child done start None = done
with_child done h x = done ++ (record { mark = h; tree = or_no_text x } ∷ [])

abbrev pub is_key : List ℕ → Mark → Bool
is_key k (key n j) = bytes_eq k j
is_key k _ = false

-- a key that its map has already: keys are compared as texts
abbrev pub is_repeated : Mark → List Child → Bool
is_repeated (key n k) done = list_any (λ c. is_key k c.mark) done
is_repeated _ done = false

-- what the pieces hold, each in turn, if each is in order
abbrev pub children : (Mark → List Mark → Option (Option Tree)) → List Child → Pieces
    → Option (List Child)
children inside done (last_piece h ms) =
    cond (is_repeated h done) None (option_map (with_child done h) (inside h ms))
children inside done (piece h ms ps) = cond (is_repeated h done) None
    (option_and_then (λ x. children inside (with_child done h x) ps) (inside h ms))

abbrev pub entries : List Child → Entries
entries [] = no_entries
entries (c ∷ cs) = entry_of c.mark c.tree (entries cs)
  where
    entry_of : Mark → Tree → Entries → Entries
    entry_of (key n k) x es = entry k x es
    entry_of _ x es = es

-- a map of its entries, a list of its items: by the mark that the first begins with
abbrev pub collection : List Child → Tree
collection [] = sequence no_trees
collection (c ∷ cs) = collection_at c.mark
  where
    collection_at : Mark → Tree
    collection_at (key n k) = mapping (entries (c ∷ cs))
    collection_at _ = sequence (trees (map (λ x. x.tree) (c ∷ cs)))

-- what stands behind a mark: nothing, or one node that has room there
abbrev pub behind : (Mark → List Mark → Option Tree) → Mark → List Mark → Option (Option Tree)
behind node h [] = Some None
behind node h (m ∷ ms) = cond (has_room h m) (option_map Some (node m ms)) None

-- the lines of a block scalar, where nothing else follows its header
abbrev pub raw_lines : List Mark → Option (List (List ℕ))
raw_lines [] = Some []
raw_lines (raw l ∷ ms) = option_map (λ ls. l ∷ ls) (raw_lines ms)
raw_lines (_ ∷ ms) = None

-- a value that is a map or list is one level deep
abbrev pub is_shallow : ℕ → Tree → Bool
is_shallow d (scalar text plain) = true
is_shallow d _ = nat_lt 0 d

-- a node that is no block map or list: an inline value, or a block scalar with its lines
abbrev pub leaf : ℕ → Mark → List Mark → Option Tree
leaf d (value n x) [] = cond (is_shallow d x) (Some x) None
leaf d (header n s) ms = option_map (λ ls. scalar (block_text s ls) false) (raw_lines ms)
leaf d _ _ = None

-- The node that begins with this mark and has these behind it, where maps and lists may still
-- nest d deep. A map at column n: its keys at n, each with what stands behind it. A list the
-- same, with dashes.
abbrev pub node : ℕ → Mark → List Mark → Option Tree
node zero m ms = leaf zero m ms
node (suc d) (key n k) ms =
    option_map collection (children (behind (node d)) [] (pieces (key n k) ms))
node (suc d) (dash n) ms =
    option_map collection (children (behind (node d)) [] (pieces (dash n) ms))
node (suc d) m ms = leaf (suc d) m ms

-- the nodes of a text's documents, which its start and each `---` and `...` begin
abbrev pub documents : List Mark → Option (List Tree)
documents ms =
    option_map (map (λ c. c.tree)) (children (behind (node max_depth)) [] (pieces start ms))
