-- The reading of a text, line by line: what the reader keeps after some lines, and that
-- it is theirs.
use Rattle.std.specs.Prelude.{◌≡◌, ℕ, Bool, List, Option, Some, None, option_map}
use Rattle.yaml_terms.specs.Mark.{Mark, header}
use Rattle.yaml_terms.specs.Text.{marked_lines, line_at, parent_after, scalar_after}
use Rattle.yaml_terms.specs.declared.Scalar.{Scalar}
use Rattle.yaml_terms.specs.OpenNodes.{Open, open_nodes, open_after_all}

-- what the reader keeps: the open nodes, the column of the last mark where it is a key or dash, the
-- block scalar that may go on
pub record Reading : Type 0 where
  pub nodes : Open
  pub parent : Option ℕ
  pub scalar : Option Scalar

-- after these lines, which are a text of the profile, the reader keeps what is theirs
pub record LinesAreRead (ls : List (List ℕ)) (r : Reading) : Type 0 where
  pub marks : List Mark
  pub are_marks : marked_lines ls ≡ Some (record {
    marks = marks;
    parent = r.parent;
    scalar = r.scalar;
  })
  pub are_open : open_nodes marks ≡ Some r.nodes

-- One more line, which has no fault: what the reader keeps then.
pub record Follows (r : Reading) (line : List ℕ) (next : Reading) : Type 0 where
  pub no_fault : (line_at r.scalar line).fault ≡ None
  pub nodes : open_after_all (line_at r.scalar line).marks r.nodes ≡ Some next.nodes
  pub parent : next.parent ≡ parent_after r.parent (line_at r.scalar line).marks
  pub scalar : next.scalar ≡ scalar_after r.scalar r.parent line

-- whether a header folds its lines; none for another mark
abbrev pub header_folds : Mark → Option Bool
header_folds (header n s) = Some s.folded
header_folds _ = None

-- the scalar behind a header, if there is one
abbrev pub scalar_behind : Option ℕ → Option Bool → Option Scalar
scalar_behind parent folds =
    option_map (λ folded. record { parent = parent; indent = None; folded = folded }) folds
