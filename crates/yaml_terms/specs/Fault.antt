-- The fault of lines that are no text of the profile: the least number of them that are none, and
-- the first fault that the last of these has.
use Rattle.std.specs.Prelude.{◌≡◌, ℕ, ◌+◌, ◌==◌, ◌||◌, Bool, false, List, [], ◌∷◌, ◌++◌, Option}
use Rattle.std.specs.Prelude.{Some, None, cond, length}
use Rattle.std.specs.Option.{option_map_or}
use Rattle.yaml_terms.specs.Tree.{Tree}
use Rattle.yaml_terms.specs.Mark.{Mark, dash, key, value, header}
use Rattle.yaml_terms.specs.FaultOrder.{earlier}
use Rattle.yaml_terms.specs.Profile.{has_room, is_next, with_child, is_repeated}
use Rattle.yaml_terms.specs.Text.{MarkedLines, line_at, marked_lines, nodes_of}
use Rattle.yaml_terms.specs.OpenNodes.{Open, nothing, within, node_so_far, open_after, open_nodes}
use Rattle.yaml_terms.specs.declared.scalar.Scalar.{Scalar}
use Rattle.yaml_terms.specs.declared.profile_fault.ProfileFault.{ProfileFault}
use Rattle.yaml_terms.specs.declared.profile_fault.ProfileFault.TheVariants.{Indent, Colon}
use Rattle.yaml_terms.specs.declared.profile_fault.ProfileFault.TheVariants.{DuplicateKey}
use Rattle.yaml_terms.specs.declared.profile_fault.ProfileFault.TheVariants.{TooDeep}

-- the mark is the next key of an open map that has it already
abbrev pub repeats : Mark → Open → Bool
repeats m (within h done i) =
    cond (is_next h m) (is_repeated m (with_child done h (node_so_far i))) (repeats m i)
repeats m _ = false

-- nothing stands yet behind the last mark, and a node that begins with this mark has room there
abbrev pub begins : Mark → Open → Bool
begins m (within h done nothing) = has_room h m
begins m (within h done i) = begins m i
begins m _ = false

-- two marks stand at one column
abbrev pub column : Mark → Option ℕ
column (dash n) = Some n
column (key n _) = Some n
column (value n _) = Some n
column (header n _) = Some n
column _ = None

abbrev pub same_column : Option ℕ → Option ℕ → Bool
same_column (Some n) (Some m) = n == m
same_column _ _ = false

-- the mark stands at the column of an open map or list
abbrev pub is_at_open : Mark → Open → Bool
is_at_open m (within h done i) = same_column (column h) (column m) || is_at_open m i
is_at_open m _ = false

-- the fault of a mark that has no place: its map has that key, it begins a node too deep, an entry
-- or item is required there, or nothing can stand
abbrev pub fault_of_mark : Mark → Open → ProfileFault
fault_of_mark m o =
    cond (repeats m o) DuplicateKey (cond (begins m o) TooDeep (cond (is_at_open m o) Colon Indent))

-- the fault of the first mark that has no place among the open nodes
abbrev pub misfit : List Mark → Open → Option ProfileFault
misfit [] o = None
misfit (m ∷ ms) o = option_map_or (misfit ms) (open_after m o) (Some (fault_of_mark m o))

-- the first fault that a line has: by itself, or among the open nodes
abbrev pub fault_of : Option Scalar → Open → List ℕ → Option ProfileFault
fault_of s o line = let l = line_at s line in earlier l.fault (misfit l.marks o)

-- Lines whose first k are no text of the profile, though fewer are one, and the fault of line k.
pub record IsFault (ls : List (List ℕ)) (k : ℕ) (which : ProfileFault) : Type 0 where
  pub before : List (List ℕ)
  pub line : List ℕ
  pub after : List (List ℕ)
  pub is_lines : ls ≡ before ++ (line ∷ after)
  pub number : k ≡ length before + 1
  pub nodes : List Tree
  pub is_text : nodes_of before ≡ Some nodes
  pub is_none : nodes_of (before ++ (line ∷ [])) ≡ None
  pub marks : MarkedLines
  pub are_marks : marked_lines before ≡ Some marks
  pub nodes_open : Open
  pub are_open : open_nodes marks.marks ≡ Some nodes_open
  pub meets : fault_of marks.scalar nodes_open line ≡ Some which
