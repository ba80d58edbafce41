-- The nodes that are open after some marks: those that a further line may still go on with.
use Rattle.std.specs.Prelude.{ℕ, suc, pred, false, List, [], ◌∷◌, Option, Some, None, cond, map}
use Rattle.std.specs.Prelude.{option_map, option_and_then}
use Rattle.yaml_terms.specs.Tree.{Tree, scalar}
use Rattle.yaml_terms.specs.Mark.{Mark, start, dash, key, value, header, raw, Child}
use Rattle.yaml_terms.specs.Block.{Block, no_lines, with_line, ended_text}
use Rattle.yaml_terms.specs.Profile.{max_depth, has_room, is_next, with_child, is_repeated}
use Rattle.yaml_terms.specs.Profile.{collection, is_shallow}

-- What stands behind a mark so far: nothing, an inline value, a block scalar that may go on, or a
-- map, list or stream, with the last mark of its own, its finished children, and what stands
-- behind that mark.
pub data Open : Type 0 where
  nothing : Open
  inline : Tree → Open
  block : Block → Open
  within : Mark → List Child → Open → Open

-- the node that it is, if nothing follows
abbrev pub node_so_far : Open → Option Tree
node_so_far nothing = None
node_so_far (inline x) = Some x
node_so_far (block b) = Some (scalar (ended_text b) false)
node_so_far (within h done i) = Some (collection (with_child done h (node_so_far i)))

-- the nodes of the documents, if the text ends there
abbrev pub documents_so_far : Open → List Tree
documents_so_far (within h done i) = map (λ c. c.tree) (with_child done h (node_so_far i))
documents_so_far _ = []

-- a node begins
abbrev pub begun_node : ℕ → Mark → Option Open
begun_node d (value n x) = cond (is_shallow d x) (Some (inline x)) None
begun_node d (header n s) = Some (block (no_lines s))
begun_node (suc d) (key n k) = Some (within (key n k) [] nothing)
begun_node (suc d) (dash n) = Some (within (dash n) [] nothing)
begun_node _ _ = None

abbrev pub with_raw : Block → Mark → Option Open
with_raw b (raw l) = Some (block (with_line b l))
with_raw b _ = None

-- the next entry, item or document begins, after these
abbrev pub next_piece : Mark → List Child → Option Open
next_piece m done = cond (is_repeated m done) None (Some (within m done nothing))

-- the open nodes after one more mark, where maps and lists may still nest d deep behind the mark h
abbrev pub next_open : ℕ → Mark → Mark → Open → Option Open
next_open d h m nothing = cond (has_room h m) (begun_node d m) None
next_open d h m (inline x) = None
next_open d h m (block b) = with_raw b m
next_open d h m (within g done i) = cond (is_next g m)
    (next_piece m (with_child done g (node_so_far i)))
    (option_map (within g done) (next_open (pred d) g m i))

abbrev pub open_after : Mark → Open → Option Open
open_after m o = next_open (suc max_depth) start m o

-- the open nodes after more marks, none where one has no place
abbrev pub open_after_all : List Mark → Open → Option Open
open_after_all [] o = Some o
open_after_all (m ∷ ms) o = option_and_then (open_after_all ms) (open_after m o)

-- the open nodes after these marks, none where they are the marks of no text
abbrev pub open_nodes : List Mark → Option Open
open_nodes ms = open_after_all ms (within start [] nothing)
