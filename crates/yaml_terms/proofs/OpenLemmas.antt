-- The open nodes: closing them gives the nodes that the marks stand for.
use Rattle.std.proofs.Common.{◌≡◌, ℕ, zero, suc, Bool, true, false, List, [], ◌∷◌, ◌++◌, Option}
use Rattle.std.proofs.Common.{Some, None, cond, map, option_map, refl, sym, ap, ◌∙◌, append_assoc}
use Rattle.std.proofs.Common.{append-nil}
use Rattle.std.specs.Option.{option_and_then}
use Rattle.std.specs.List.{fold}
use Rattle.std.proofs.lemmas.List.Sums.{fold-append}
use Rattle.yaml_terms.specs.Tree.{Tree, scalar}
use Rattle.yaml_terms.specs.Mark.{Mark, start, dash, key, value, header, raw, Child}
use Rattle.yaml_terms.specs.Block.{block_text, Block, no_lines, with_line}
use Rattle.yaml_terms.specs.Profile.{max_depth, has_room, Pieces, last_piece, piece, is_next}
use Rattle.yaml_terms.specs.Profile.{with_first, pieces, with_child, is_repeated, children}
use Rattle.yaml_terms.specs.Profile.{collection, behind, raw_lines, is_shallow, leaf, node}
use Rattle.yaml_terms.specs.Profile.{documents}
use Rattle.yaml_terms.specs.OpenNodes.{Open, nothing, inline, block, within, node_so_far}
use Rattle.yaml_terms.specs.OpenNodes.{open_nodes}
use Rattle.yaml_terms.specs.OpenNodes.{documents_so_far, begun_node, next_open, open_after}
use Rattle.yaml_terms.specs.OpenNodes.{open_after_all}

-- FROM THE OUTSIDE IN

-- the open nodes of a node, read as the node is: all pieces but the last are finished
abbrev open_leaf : ℕ → Mark → List Mark → Option Open
open_leaf d (value n x) [] = cond (is_shallow d x) (Some (inline x)) None
open_leaf d (header n s) ms =
    option_map (λ ls. block (fold with_line (no_lines s) ls)) (raw_lines ms)
open_leaf d _ _ = None

abbrev open_pieces : (Mark → List Mark → Option (Option Tree)) → (Mark → List Mark → Option Open)
    → List Child → Pieces → Option Open
open_pieces inside last done (last_piece h ms) =
    cond (is_repeated h done) None (option_map (within h done) (last h ms))
open_pieces inside last done (piece h ms ps) = cond (is_repeated h done) None
    (option_and_then (λ x. open_pieces inside last (with_child done h x) ps) (inside h ms))

abbrev open_behind : (Mark → List Mark → Option Open) → Mark → List Mark → Option Open
open_behind opened h [] = Some nothing
open_behind opened h (m ∷ ms) = cond (has_room h m) (opened m ms) None

abbrev opened : ℕ → Mark → List Mark → Option Open
opened zero m ms = open_leaf zero m ms
opened (suc d) (key n k) ms =
    open_pieces (behind (node d)) (open_behind (opened d)) [] (pieces (key n k) ms)
opened (suc d) (dash n) ms =
    open_pieces (behind (node d)) (open_behind (opened d)) [] (pieces (dash n) ms)
opened (suc d) m ms = open_leaf (suc d) m ms

abbrev from_outside : List Mark → Option Open
from_outside ms =
    open_pieces (behind (node max_depth)) (open_behind (opened max_depth)) [] (pieces start ms)

-- one more mark at the end of the last piece, or a piece of its own
abbrev snoc : Mark → Pieces → Pieces
snoc m (last_piece h ms) =
    cond (is_next h m) (piece h ms (last_piece m [])) (last_piece h (ms ++ (m ∷ [])))
snoc m (piece h ms ps) = piece h ms (snoc m ps)

with_first-snoc : (x m : Mark) (ps : Pieces) → snoc m (with_first x ps) ≡ with_first x (snoc m ps)
with_first-snoc x m (last_piece h ms) = elim (is_next h m) as (λ b.
    cond b (piece h (x ∷ ms) (last_piece m [])) (last_piece h (x ∷ (ms ++ (m ∷ []))))
    ≡ with_first x (cond b (piece h ms (last_piece m [])) (last_piece h (ms ++ (m ∷ [])))))
    [ true ↦ refl | false ↦ refl ]
with_first-snoc x m (piece h ms ps) = refl

snoc-cond : (b : Bool) (h x m : Mark) (p q : Pieces)
    → snoc m (cond b (piece h [] p) (with_first x q))
    ≡ cond b (piece h [] (snoc m p)) (with_first x (snoc m q))
snoc-cond true h x m p q = refl
snoc-cond false h x m p q = with_first-snoc x m q

pieces-snoc : (h : Mark) (ms : List Mark) (m : Mark)
    → pieces h (ms ++ (m ∷ [])) ≡ snoc m (pieces h ms)
pieces-snoc h [] m = refl
pieces-snoc h (x ∷ ms) m = rw (pieces-snoc x ms m, pieces-snoc h ms m)
    (sym (snoc-cond (is_next h x) h x m (pieces x ms) (pieces h ms)))

-- CLOSING

children_closed : {R : Type 0} (inside : Mark → List Mark → Option (Option Tree))
    (last : Mark → List Mark → Option Open) (g : List Child → R) (c : Open → R)
    → ((h : Mark) (ms : List Mark) → inside h ms ≡ option_map node_so_far (last h ms))
    → ((h : Mark) (done : List Child) (i : Open)
    → c (within h done i) ≡ g (with_child done h (node_so_far i)))
    → (done : List Child) (ps : Pieces)
    → option_map g (children inside done ps) ≡ option_map c (open_pieces inside last done ps)
children_closed inside last g c same closes done (last_piece h ms) =
    rw (same h ms) (at_last (is_repeated h done) (last h ms))
  where
    at_last : (b : Bool) (o : Option Open)
        → option_map g (cond b None (option_map (with_child done h) (option_map node_so_far o)))
        ≡ option_map c (cond b None (option_map (within h done) o))
    at_last true o = refl
    at_last false None = refl
    at_last false (Some i) = ap Some (sym (closes h done i))
children_closed inside last g c same closes done (piece h ms ps) =
    at_piece (is_repeated h done) (inside h ms)
    (λ x. children_closed inside last g c same closes (with_child done h x) ps)
  where
    at_piece : (b : Bool) (o : Option (Option Tree))
        → ((x : Option Tree) → option_map g (children inside (with_child done h x) ps)
        ≡ option_map c (open_pieces inside last (with_child done h x) ps))
        → option_map g (cond b None (option_and_then
        (λ x. children inside (with_child done h x) ps) o)) ≡ option_map c (cond b None
        (option_and_then (λ x. open_pieces inside last (with_child done h x) ps) o))
    at_piece true o ih = refl
    at_piece false None ih = refl
    at_piece false (Some x) ih = ih x

option_map-twice : {A B C : Type 0} (g : B → C) (f : A → B) (o : Option A)
    → option_map g (option_map f o) ≡ option_map (λ x. g (f x)) o
option_map-twice g f None = refl
option_map-twice g f (Some x) = refl

leaf_closed : (d : ℕ) (m : Mark) (ms : List Mark)
    → option_map Some (leaf d m ms) ≡ option_map node_so_far (open_leaf d m ms)
leaf_closed d start ms = refl
leaf_closed d (dash n) ms = refl
leaf_closed d (key n k) ms = refl
leaf_closed d (value n x) [] = elim (is_shallow d x) as (λ b. option_map Some (cond b (Some x) None)
    ≡ option_map node_so_far (cond b (Some (inline x)) None)) [ true ↦ refl | false ↦ refl ]
leaf_closed d (value n x) (m ∷ ms) = refl
leaf_closed d (header n s) ms = by_lines (raw_lines ms)
  where
    by_lines : (o : Option (List (List ℕ)))
        → option_map Some (option_map (λ ls. scalar (block_text s ls) false) o)
        ≡ option_map node_so_far (option_map (λ ls. block (fold with_line (no_lines s) ls)) o)
    by_lines None = refl
    by_lines (Some ls) = refl
leaf_closed d (raw l) ms = refl

behind_closed : (node_of : Mark → List Mark → Option Tree)
    (open_of : Mark → List Mark → Option Open)
    → ((m : Mark) (ms : List Mark)
    → option_map Some (node_of m ms) ≡ option_map node_so_far (open_of m ms))
    → (h : Mark) (ms : List Mark)
    → behind node_of h ms ≡ option_map node_so_far (open_behind open_of h ms)
behind_closed node_of open_of same h [] = refl
behind_closed node_of open_of same h (m ∷ ms) =
    rw (same m ms) (elim (has_room h m) as (λ b. cond b (option_map node_so_far (open_of m ms)) None
    ≡ option_map node_so_far (cond b (open_of m ms) None)) [ true ↦ refl | false ↦ refl ])

-- a node is its open nodes, closed
pub node_closed : (d : ℕ) (m : Mark) (ms : List Mark)
    → option_map Some (node d m ms) ≡ option_map node_so_far (opened d m ms)
node_closed zero m ms = leaf_closed zero m ms
node_closed (suc d) start ms = refl
node_closed (suc d) (dash n) ms =
    option_map-twice Some collection (children (behind (node d)) [] (pieces (dash n) ms))
    ∙ children_closed (behind (node d)) (open_behind (opened d)) (λ cs. Some (collection cs))
    node_so_far (behind_closed (node d) (opened d) (node_closed d)) (λ h done i. refl) []
    (pieces (dash n) ms)
node_closed (suc d) (key n k) ms =
    option_map-twice Some collection (children (behind (node d)) [] (pieces (key n k) ms))
    ∙ children_closed (behind (node d)) (open_behind (opened d)) (λ cs. Some (collection cs))
    node_so_far (behind_closed (node d) (opened d) (node_closed d)) (λ h done i. refl) []
    (pieces (key n k) ms)
node_closed (suc d) (value n x) ms = leaf_closed (suc d) (value n x) ms
node_closed (suc d) (header n s) ms = leaf_closed (suc d) (header n s) ms
node_closed (suc d) (raw l) ms = refl

-- the nodes of a text's documents are its open nodes, closed
documents_outside : (ms : List Mark) → documents ms ≡ option_map documents_so_far (from_outside ms)
documents_outside ms =
    children_closed (behind (node max_depth)) (open_behind (opened max_depth)) (map (λ c. c.tree))
    documents_so_far (behind_closed (node max_depth) (opened max_depth) (node_closed max_depth))
    (λ h done i. refl) [] (pieces start ms)

-- ONE MORE MARK

open_pieces-snoc : (inside : Mark → List Mark → Option (Option Tree))
    (last : Mark → List Mark → Option Open) (d : ℕ)
    → ((h : Mark) (ms : List Mark) → inside h ms ≡ option_map node_so_far (last h ms))
    → ((h : Mark) → last h [] ≡ Some nothing)
    → ((h : Mark) (ms : List Mark) (m : Mark)
    → last h (ms ++ (m ∷ [])) ≡ option_and_then (next_open d h m) (last h ms))
    → (done : List Child) (ps : Pieces) (m g : Mark) → open_pieces inside last done (snoc m ps)
    ≡ option_and_then (next_open (suc d) g m) (open_pieces inside last done ps)
open_pieces-snoc inside last d same empty more done (last_piece h ms) m g =
    by_next (is_next h m) refl
  where
    next_there : (r : Bool) (o : Option Open) → is_next h m ≡ true
        → cond r None (option_and_then (λ x. cond (is_repeated m (with_child done h x)) None
        (option_map (within m (with_child done h x)) (Some nothing))) (option_map node_so_far o))
        ≡ option_and_then (next_open (suc d) g m) (cond r None (option_map (within h done) o))
    next_there true o e = refl
    next_there false None e = refl
    next_there false (Some i) e = rw e refl

    inside_there : (r : Bool) (o : Option Open) → is_next h m ≡ false
        → cond r None (option_map (within h done) (option_and_then (next_open d h m) o))
        ≡ option_and_then (next_open (suc d) g m) (cond r None (option_map (within h done) o))
    inside_there true o e = refl
    inside_there false None e = refl
    inside_there false (Some i) e = rw e refl

    by_next : (b : Bool) → is_next h m ≡ b → open_pieces inside last done (snoc m (last_piece h ms))
        ≡ option_and_then (next_open (suc d) g m) (open_pieces inside last done (last_piece h ms))
    by_next true e = rw (e, same h ms, empty m) (next_there (is_repeated h done) (last h ms) e)
    by_next false e = rw (e, more h ms m) (inside_there (is_repeated h done) (last h ms) e)
open_pieces-snoc inside last d same empty more done (piece h ms ps) m g =
    at_piece (is_repeated h done) (inside h ms)
    (λ x. open_pieces-snoc inside last d same empty more (with_child done h x) ps m g)
  where
    at_piece : (b : Bool) (o : Option (Option Tree)) → ((x : Option Tree)
        → open_pieces inside last (with_child done h x) (snoc m ps) ≡ option_and_then
        (next_open (suc d) g m) (open_pieces inside last (with_child done h x) ps))
        → cond b None (option_and_then (λ x. open_pieces inside last
        (with_child done h x) (snoc m ps)) o) ≡ option_and_then (next_open (suc d) g m) (cond b None
        (option_and_then (λ x. open_pieces inside last (with_child done h x) ps) o))
    at_piece true o ih = refl
    at_piece false None ih = refl
    at_piece false (Some x) ih = ih x

-- the lines of a block scalar, and one more
abbrev with_raw_line : List (List ℕ) → Mark → Option (List (List ℕ))
with_raw_line ls (raw l) = Some (ls ++ (l ∷ []))
with_raw_line ls _ = None

raw_lines-snoc : (ms : List Mark) (m : Mark)
    → raw_lines (ms ++ (m ∷ [])) ≡ option_and_then (λ ls. with_raw_line ls m) (raw_lines ms)
raw_lines-snoc [] start = refl
raw_lines-snoc [] (dash n) = refl
raw_lines-snoc [] (key n k) = refl
raw_lines-snoc [] (value n x) = refl
raw_lines-snoc [] (header n s) = refl
raw_lines-snoc [] (raw l) = refl
raw_lines-snoc (raw l ∷ ms) m = rw (raw_lines-snoc ms m) (behind_first (raw_lines ms) m)
  where
    behind_first : (o : Option (List (List ℕ))) (m : Mark)
        → option_map (λ ls. l ∷ ls) (option_and_then (λ ls. with_raw_line ls m) o)
        ≡ option_and_then (λ ls. with_raw_line ls m) (option_map (λ ls. l ∷ ls) o)
    behind_first None m = refl
    behind_first (Some ls) start = refl
    behind_first (Some ls) (dash n) = refl
    behind_first (Some ls) (key n k) = refl
    behind_first (Some ls) (value n x) = refl
    behind_first (Some ls) (header n s) = refl
    behind_first (Some ls) (raw j) = refl
raw_lines-snoc (start ∷ ms) m = refl
raw_lines-snoc (dash n ∷ ms) m = refl
raw_lines-snoc (key n k ∷ ms) m = refl
raw_lines-snoc (value n x ∷ ms) m = refl
raw_lines-snoc (header n s ∷ ms) m = refl

leaf-snoc : (d : ℕ) (x : Mark) (ms : List Mark) (h m : Mark)
    → open_leaf d x (ms ++ (m ∷ [])) ≡ option_and_then (next_open d h m) (open_leaf d x ms)
leaf-snoc d start ms h m = refl
leaf-snoc d (dash n) ms h m = refl
leaf-snoc d (key n k) ms h m = refl
leaf-snoc d (value n x) [] h m = elim (is_shallow d x) as (λ b. None
    ≡ option_and_then (next_open d h m) (cond b (Some (inline x)) None))
    [ true ↦ refl | false ↦ refl ]
leaf-snoc d (value n x) (y ∷ ms) h m = refl
leaf-snoc d (header n s) ms h m = rw (raw_lines-snoc ms m) (by_lines (raw_lines ms) m)
  where
    by_lines : (o : Option (List (List ℕ))) (m : Mark) → option_map (λ ls.
        block (fold with_line (no_lines s) ls)) (option_and_then (λ ls. with_raw_line ls m) o)
        ≡ option_and_then (next_open d h m)
        (option_map (λ ls. block (fold with_line (no_lines s) ls)) o)
    by_lines None m = refl
    by_lines (Some ls) start = refl
    by_lines (Some ls) (dash n) = refl
    by_lines (Some ls) (key n k) = refl
    by_lines (Some ls) (value n x) = refl
    by_lines (Some ls) (header n t) = refl
    by_lines (Some ls) (raw l) =
        ap (λ (b : Block). Some (block b)) (fold-append with_line (no_lines s) ls (l ∷ []))
leaf-snoc d (raw l) ms h m = refl

begun_is : (d : ℕ) (m : Mark) → opened d m [] ≡ begun_node d m
begun_is zero start = refl
begun_is zero (dash n) = refl
begun_is zero (key n k) = refl
begun_is zero (value n x) = refl
begun_is zero (header n s) = refl
begun_is zero (raw l) = refl
begun_is (suc d) start = refl
begun_is (suc d) (dash n) = refl
begun_is (suc d) (key n k) = refl
begun_is (suc d) (value n x) = refl
begun_is (suc d) (header n s) = refl
begun_is (suc d) (raw l) = refl

behind-snoc : (open_of : Mark → List Mark → Option Open) (d : ℕ)
    → ((m : Mark) → open_of m [] ≡ begun_node d m)
    → ((x : Mark) (ms : List Mark) (h m : Mark)
    → open_of x (ms ++ (m ∷ [])) ≡ option_and_then (next_open d h m) (open_of x ms))
    → (h : Mark) (ms : List Mark) (m : Mark) → open_behind open_of h (ms ++ (m ∷ []))
    ≡ option_and_then (next_open d h m) (open_behind open_of h ms)
behind-snoc open_of d first more h [] m = rw (first m) refl
behind-snoc open_of d first more h (x ∷ ms) m = rw (more x ms h m) (elim (has_room h x) as (λ b.
    cond b (option_and_then (next_open d h m) (open_of x ms)) None
    ≡ option_and_then (next_open d h m)
    (cond b (open_of x ms) None)) [ true ↦ refl | false ↦ refl ])

opened-snoc : (d : ℕ) (x : Mark) (ms : List Mark) (h m : Mark)
    → opened d x (ms ++ (m ∷ [])) ≡ option_and_then (next_open d h m) (opened d x ms)
opened-snoc zero x ms h m = leaf-snoc zero x ms h m
opened-snoc (suc d) start ms h m = leaf-snoc (suc d) start ms h m
opened-snoc (suc d) (dash n) ms h m = rw (pieces-snoc (dash n) ms m)
    (open_pieces-snoc (behind (node d))
    (open_behind (opened d)) d (behind_closed (node d) (opened d) (node_closed d)) (λ g. refl)
    (behind-snoc (opened d) d (begun_is d) (opened-snoc d)) [] (pieces (dash n) ms) m h)
opened-snoc (suc d) (key n k) ms h m = rw (pieces-snoc (key n k) ms m)
    (open_pieces-snoc (behind (node d))
    (open_behind (opened d)) d (behind_closed (node d) (opened d) (node_closed d)) (λ g. refl)
    (behind-snoc (opened d) d (begun_is d) (opened-snoc d)) [] (pieces (key n k) ms) m h)
opened-snoc (suc d) (value n x) ms h m = leaf-snoc (suc d) (value n x) ms h m
opened-snoc (suc d) (header n s) ms h m = leaf-snoc (suc d) (header n s) ms h m
opened-snoc (suc d) (raw l) ms h m = leaf-snoc (suc d) (raw l) ms h m

-- the open nodes after one more mark
outside-snoc : (ms : List Mark) (m : Mark)
    → from_outside (ms ++ (m ∷ [])) ≡ option_and_then (open_after m) (from_outside ms)
outside-snoc ms m = rw (pieces-snoc start ms m)
    (open_pieces-snoc (behind (node max_depth)) (open_behind (opened max_depth)) max_depth
    (behind_closed (node max_depth) (opened max_depth) (node_closed max_depth)) (λ g. refl)
    (behind-snoc (opened max_depth) max_depth (begun_is max_depth) (opened-snoc max_depth)) []
    (pieces start ms) m start)

option_and_then-assoc : {A B C : Type 0} (f : A → Option B) (g : B → Option C) (o : Option A)
    → option_and_then g (option_and_then f o) ≡ option_and_then (λ x. option_and_then g (f x)) o
option_and_then-assoc f g None = refl
option_and_then-assoc f g (Some x) = refl

outside-append : (ms ns : List Mark)
    → from_outside (ms ++ ns) ≡ option_and_then (open_after_all ns) (from_outside ms)
outside-append ms [] = rw append-nil (at_end (from_outside ms))
  where
    at_end : (o : Option Open) → o ≡ option_and_then (open_after_all []) o
    at_end None = refl
    at_end (Some x) = refl
outside-append ms (n ∷ ns) = ap from_outside (sym (append_assoc ms (n ∷ []) ns))
    ∙ outside-append (ms ++ (n ∷ [])) ns ∙ ap (option_and_then (open_after_all ns))
    (outside-snoc ms n)
    ∙ option_and_then-assoc (open_after n) (open_after_all ns) (from_outside ms)

-- MARK BY MARK

-- the nodes of a text's documents are its open nodes, closed
pub documents_closed : (ms : List Mark) → documents ms ≡ option_map documents_so_far (open_nodes ms)
documents_closed ms = documents_outside ms ∙ ap (option_map documents_so_far) (outside-append [] ms)

add_all-append : (ms ns : List Mark) (o : Open)
    → open_after_all (ms ++ ns) o ≡ option_and_then (open_after_all ns) (open_after_all ms o)
add_all-append [] ns o = refl
add_all-append (m ∷ ms) ns o = behind_one (open_after m o) (λ q. add_all-append ms ns q)
  where
    behind_one : (p : Option Open)
        → ((q : Open) → open_after_all (ms ++ ns) q
        ≡ option_and_then (open_after_all ns) (open_after_all ms q))
        → option_and_then (open_after_all (ms ++ ns)) p
        ≡ option_and_then (open_after_all ns) (option_and_then (open_after_all ms) p)
    behind_one None ih = refl
    behind_one (Some q) ih = ih q

-- the open nodes after more marks
pub open_nodes-append : (ms ns : List Mark)
    → open_nodes (ms ++ ns) ≡ option_and_then (open_after_all ns) (open_nodes ms)
open_nodes-append ms ns = add_all-append ms ns (within start [] nothing)
