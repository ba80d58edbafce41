-- What contracts see of the open nodes that the reader keeps: its frames, the outermost first.
use Rattle.std.specs.Prelude.{ℕ, suc, Bool, ◌||◌, true, false, ◌≡◌, List, [], ◌∷◌, ◌++◌, Option}
use Rattle.std.specs.Prelude.{Some, None, cond, map, option_map}
use Rattle.yaml_terms.specs.Tree.{Tree}
use Rattle.yaml_terms.specs.Mark.{Mark, start, dash, key, Child}
use Rattle.yaml_terms.specs.Profile.{is_next, is_repeated, with_child, collection}
use Rattle.yaml_lines.specs.BlockView.{block_view}
use Rattle.yaml_terms.specs.OpenNodes.{Open, nothing, inline, block, within}
use Rattle.yaml_terms.specs.Fault.{column, same_column}
use Rattle.yaml_terms.specs.NodeView.{node_view}
use Rattle.yaml_terms.specs.declared.ScalarText.{ScalarText}
use Rattle.yaml_terms.specs.declared.Node.{Node}
use Rattle.yaml_subset.specs.declared.frame.Frame.{Frame}
use Rattle.yaml_subset.specs.declared.frame.Frame.TheVariants as frames
use Rattle.yaml_subset.specs.declared.frame.Last.{Last}
use Rattle.yaml_subset.specs.declared.frame.Last.TheVariants as lasts
use Rattle.yaml_subset.specs.declared.open.OpenNodes.{OpenNodes}

abbrev pub last_view : Last → Open
last_view lasts.Nothing = nothing
last_view (lasts.Inline x) = inline (node_view x)
last_view (lasts.Block b) = block (block_view b)

-- a finished node behind a mark
abbrev pub child : Mark → Node → Child
child m x = record { mark = m; tree = node_view x }

abbrev pub entry_child : ℕ → (ScalarText × Node) → Child
entry_child n p = child (key n p.0) p.1

-- the last mark of an open map, list or stream
abbrev pub head_of : Frame → Mark
head_of (frames.Map n entries) = key n entries.1
head_of (frames.List n items) = dash n

-- its finished children
abbrev pub done_of : Frame → List Child
done_of (frames.Map n entries) = map (entry_child n) entries.0
done_of (frames.List n items) = map (child (dash n)) items.items

-- frames, and what stands within the innermost
abbrev pub open_of : List Frame → Open → Open
open_of [] o = o
open_of (f ∷ fs) o = within (head_of f) (done_of f) (open_of fs o)

-- the place of the outermost frame whose next piece the mark begins
abbrev pub next_place : Mark → List Frame → ℕ
next_place m [] = 0
next_place m (f ∷ fs) = cond (is_next (head_of f) m) 0 (suc (next_place m fs))

-- the last mark of the innermost frame
abbrev pub last_head : Mark → List Frame → Mark
last_head h [] = h
last_head h (f ∷ fs) = last_head (head_of f) fs

-- what the reader keeps as a whole: the finished documents, and what stands in the one that is open
abbrev pub stream_of : List Node → List Frame → Open → Open
stream_of docs fs o = within start (map (child start) docs) (open_of fs o)

-- the open nodes of the reader
abbrev pub nodes_open : OpenNodes → Open
nodes_open o = stream_of o.documents.items o.frames.items (last_view o.last)

-- a map or list at its next mark, with a value behind its last one; or none, where the mark is a
-- key that the map has already
abbrev pub GoesOn : Frame → Option Tree → Mark → Option Frame → Type 0
GoesOn before value m None =
    is_repeated m (with_child (done_of before) (head_of before) None) ≡ true
GoesOn before value m (Some after) =
    (is_repeated m (with_child (done_of before) (head_of before) None) ≡ false)
    × (head_of after ≡ m) × (done_of after ≡ with_child (done_of before) (head_of before) value)

-- one frame fewer: the innermost is closed, with this value within it
pub record ClosesOne (before : List Frame) (value : Option Tree) (after : List Frame)
    (closed : Option Tree) : Type 0 where
  pub frame : Frame
  pub frames : before ≡ after ++ (frame ∷ [])
  pub closes : closed ≡ Some (collection (with_child (done_of frame) (head_of frame) value))

-- one of these frames stands at this column
abbrev pub any_at : Option ℕ → List Frame → Bool
any_at at [] = false
any_at at (f ∷ fs) = same_column (column (head_of f)) at || any_at at fs

-- whether nothing stands yet in the innermost frame
abbrev pub is_nothing : Last → Bool
is_nothing lasts.Nothing = true
is_nothing _ = false

-- a node that begins within the innermost of these frames gives these open nodes
abbrev pub BeginsAs : List Node → List Frame → Option Open → Open → Type 0
BeginsAs docs fs begun o = option_map (λ x. stream_of docs fs x) begun ≡ Some o
