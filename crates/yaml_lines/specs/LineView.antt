-- What contracts see of the marks of a line.
use Rattle.std.specs.Prelude.{ℕ, List, [], ◌∷◌, ◌++◌, ◌==◌, ◌&&◌, cond, map}
use Rattle.yaml_terms.specs.Mark as marks
use Rattle.yaml_terms.specs.FaultOrder.{earlier}
use Rattle.yaml_terms.specs.Line.{Line, Key, tab_fault, ends_word}
use Rattle.yaml_terms.specs.Block.{is_blank_byte}
use Rattle.yaml_lines.specs.declared.line.Ahead.{Ahead}
use Rattle.yaml_lines.specs.declared.line.Ahead.TheVariants.{Blank, Comment, Dash as Dashed, Entry}
use Rattle.yaml_terms.specs.NodeView.{node_view}
use Rattle.yaml_lines.specs.declared.mark.Mark.{Mark}
use Rattle.yaml_lines.specs.declared.mark.Mark.TheVariants.{Start, Dash, Key as KeyOf, Value}
use Rattle.yaml_lines.specs.declared.mark.Mark.TheVariants.{Header}
use Rattle.yaml_lines.specs.declared.mark.Line.{Line as Read}
use Rattle.yaml_lines.specs.declared.inline.Key.{Key as ReadKey}

abbrev pub mark_view : Mark → marks.Mark
mark_view Start = marks.start
mark_view (Dash n) = marks.dash n
mark_view (KeyOf n text) = marks.key n text
mark_view (Value n x) = marks.value n (node_view x)
mark_view (Header n s) = marks.header n s

abbrev pub line_view : Read → Line
line_view l = record { marks = map mark_view l.marks.items; fault = l.fault }

abbrev pub key_view : ReadKey → Key
key_view k = record { text = k.text; length = k.length; fault = k.fault }

-- what stands on a line, and behind it
abbrev pub joined_lines : Line → Line → Line
joined_lines l m = record { marks = l.marks ++ m.marks; fault = earlier l.fault m.fault }

-- a blank behind dashes, and one more dash
abbrev pub blank_seen : Line → ℕ → Line
blank_seen l c = record { marks = l.marks; fault = earlier l.fault (tab_fault c) }

abbrev pub dash_seen : Line → ℕ → Line
dash_seen l n = record { marks = l.marks ++ (marks.dash n ∷ []); fault = l.fault }

-- what the first of these bytes begins
abbrev pub ahead_of : ℕ → List ℕ → Ahead
ahead_of c cs = cond (is_blank_byte c) Blank
    (cond (c == 35) Comment (cond (c == 45 && ends_word cs) Dashed Entry))
