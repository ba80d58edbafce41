-- Which nodes a text stands for.
use Rattle.std.specs.Prelude.{◌≡◌, ℕ, ◌≤◌, ◌==◌, ◌&&◌, ◌||◌, nat_le, nat_eq, is_none, Bool, true}
use Rattle.std.specs.Prelude.{false, not, List, [], ◌∷◌, ◌++◌, Option, Some, None, cond, drop}
use Rattle.std.specs.Prelude.{length, nat_lt, option_map, option_and_then, fold}
use Rattle.std.specs.List.{prefix_len, starts_with}
use Rattle.std.specs.Str.{IsUtf8}
use Rattle.std.specs.Str.Lines.{lines}
use Rattle.slo_limits.specs.declared.TheConstants.{MAX_TEXT_BYTES}
use Rattle.yaml_terms.specs.Tree.{Tree}
use Rattle.yaml_terms.specs.Mark.{Mark, dash, key, header, raw}
use Rattle.yaml_terms.specs.Block.{is_blank, is_blank_byte, indentation, indent_of}
use Rattle.yaml_terms.specs.Line.{Line, has_control, is_marker, line_of}
use Rattle.yaml_terms.specs.Profile.{documents}
use Rattle.yaml_terms.specs.declared.scalar.Scalar.{Scalar}
use Rattle.yaml_terms.specs.declared.profile_fault.ProfileFault.{ProfileFault}
use Rattle.yaml_terms.specs.declared.profile_fault.ProfileFault.TheVariants.{Control, Tab, LeftOut}

-- A block scalar that may take the next line: the column of the key or dash behind which it stands,
-- none at the root, the content's indentation once a line that isn't blank has set it, and whether
-- it folds its lines. It takes blank lines, and lines that are indented as its content; `---` and
-- `...` end it (section 8.1.1.1).
abbrev pub is_content : Scalar → ℕ → Bool
is_content s n = is_content_at s.indent s.parent n
  where
    is_content_at : Option ℕ → Option ℕ → ℕ → Bool
    is_content_at (Some indent) parent n = nat_le indent n
    is_content_at None (Some column) n = nat_lt column n
    is_content_at None None n = true

abbrev pub takes : Option Scalar → List ℕ → Bool
takes None line = false
takes (Some s) line = not (is_marker line) && (is_blank line || is_content s (indentation line))

-- what is left of a line of a block scalar, behind the indentation of its content
abbrev pub behind_indent : Scalar → List ℕ → List ℕ
behind_indent s line = drop (indent_of s.indent line) line

-- a more-indented line, which this profile leaves out where lines are folded (section 8.1.3)
abbrev pub is_more_indented : Scalar → List ℕ → Bool
is_more_indented s line =
    s.folded && not (is_blank line) && nat_le 1 (prefix_len is_blank_byte (behind_indent s line))

-- a tab before the line's first character that is no blank
abbrev pub has_early_tab : List ℕ → Bool
has_early_tab line = not (prefix_len is_blank_byte line == indentation line)

abbrev pub raw_fault : Scalar → List ℕ → Option ProfileFault
raw_fault s line = cond (has_control line) (Some Control)
    (cond (is_more_indented s line) (Some (cond (has_early_tab line) Tab LeftOut)) None)

-- a line: the open block scalar takes it, or it stands by itself
abbrev pub line_at : Option Scalar → List ℕ → Line
line_at o line = cond (takes o line) (record {
  marks = raw line ∷ [];
  fault = option_and_then (λ s. raw_fault s line) o;
}) (line_of line)

-- the column of a key or dash
abbrev pub parent_at : Mark → Option ℕ
parent_at (key n k) = Some n
parent_at (dash n) = Some n
parent_at _ = None

-- the column of the last of these marks, where it is a key or dash, or else as before them
abbrev pub parent_after : Option ℕ → List Mark → Option ℕ
parent_after parent [] = parent
parent_after parent (m ∷ ms) = parent_after (parent_at m) ms

-- the block scalar whose header ends the line with these marks
abbrev pub header_scalar : Option ℕ → List Mark → Option Scalar
header_scalar parent [] = None
header_scalar parent (header n s ∷ []) =
    Some (record { parent = parent; indent = None; folded = s.folded })
header_scalar parent (m ∷ ms) = header_scalar (parent_at m) ms

-- the scalar with one more line
abbrev pub scalar_with : List ℕ → Scalar → Scalar
scalar_with line s = cond (is_blank line) s
    (record s { indent = Some (indent_of s.indent line) })

-- Lines as marks, with the column of the last of them where it is a key or dash, and the block
-- scalar that may take the next line. A comment that no scalar takes has no mark, and yet ends it.
pub record MarkedLines : Type 0 where
  pub marks : List Mark
  pub parent : Option ℕ
  pub scalar : Option Scalar

abbrev pub scalar_after : Option Scalar → Option ℕ → List ℕ → Option Scalar
scalar_after o parent line = cond (takes o line) (option_map (scalar_with line) o)
    (header_scalar parent (line_of line).marks)

-- one more line, where it has no fault by itself
abbrev pub next_line : MarkedLines → List ℕ → Option MarkedLines
next_line s line = let l = line_at s.scalar line in
    cond (is_none l.fault) (Some (record {
      marks = s.marks ++ l.marks;
      parent = parent_after s.parent l.marks;
      scalar = scalar_after s.scalar s.parent line;
    })) None

abbrev pub no_line : MarkedLines
no_line = record { marks = []; parent = None; scalar = None }

abbrev pub marked_lines : List (List ℕ) → Option MarkedLines
marked_lines ls = fold (λ o line. option_and_then (λ s. next_line s line) o) (Some no_line) ls

-- the nodes that lines stand for
abbrev pub nodes_of : List (List ℕ) → Option (List Tree)
nodes_of ls = option_and_then (λ s. documents s.marks) (marked_lines ls)

-- the text without a byte order mark at its start (section 5.2)
abbrev pub without_mark : List ℕ → List ℕ
without_mark text = cond (starts_with nat_eq text (239 ∷ 187 ∷ 191 ∷ [])) (drop 3 text) text

-- A text stands for these nodes, one for each document that has one.
pub record StandsFor (text : List ℕ) (xs : List Tree) : Type 0 where
  pub small : length text ≤ MAX_TEXT_BYTES
  pub utf8 : IsUtf8 (without_mark text)
  pub nodes : nodes_of (lines (without_mark text)) ≡ Some xs
