-- Block scalars (YAML 1.2.2, sections 8.1.2 and 8.1.3): what text their lines stand for.
use Rattle.std.specs.Prelude.{ℕ, zero, suc, ◌-◌, ◌==◌, ◌||◌, Bool, true, false, List, [], ◌∷◌, ◌++◌}
use Rattle.std.specs.Prelude.{Option, Some, None, cond, drop, take, length, reverse, replicate}
use Rattle.std.specs.Prelude.{fold}
use Rattle.std.specs.List.{list_all, prefix_len}
use Rattle.yaml_terms.specs.declared.style.Style.{Style}
use Rattle.yaml_terms.specs.declared.style.Chomping.{Chomping}
use Rattle.yaml_terms.specs.declared.style.Chomping.TheVariants.{Clip, Strip, Keep}

abbrev pub is_space : ℕ → Bool
is_space c = c == 32

-- a space or a tab
abbrev pub is_blank_byte : ℕ → Bool
is_blank_byte c = c == 32 || c == 9

-- A line of spaces and tabs alone, however long it is, also inside a block scalar.
-- READS OTHERWISE than YAML 1.2.2, which keeps what such a line has past the content's indentation.
abbrev pub is_blank : List ℕ → Bool
is_blank line = list_all is_blank_byte line

-- how many spaces a line begins with
abbrev pub indentation : List ℕ → ℕ
indentation line = prefix_len is_space line

-- without the bytes at its end that pass the test
abbrev pub trimmed_text : (ℕ → Bool) → List ℕ → List ℕ
trimmed_text test text = take (length text - prefix_len test (reverse text)) text

-- the end of a scalar's text: its last line feed, and the blank lines after it
abbrev pub ending : Chomping → ℕ → List ℕ
ending Clip blanks = 10 ∷ []
ending Strip blanks = []
ending Keep blanks = replicate (suc blanks) 10

-- what joins a line to the one before it, with so many blank lines between: folding makes one line
-- feed into a space
abbrev pub joint : Bool → ℕ → List ℕ
joint false blanks = replicate (suc blanks) 10
joint true zero = 32 ∷ []
joint true (suc blanks) = replicate (suc blanks) 10

-- A block scalar so far: its text up to its last line that isn't blank, and the blank lines after
-- it. The content's indentation is that of its first line that isn't blank; blank lines before that
-- give a line feed each.
pub record Block : Type 0 where
  pub style : Style
  pub indent : Option ℕ
  pub text : List ℕ
  pub blanks : ℕ

abbrev pub no_lines : Style → Block
no_lines s = record { style = s; indent = None; text = []; blanks = 0 }

-- what a line that isn't blank adds to a scalar's text
abbrev pub content_of : Block → List ℕ → List ℕ
content_of b l = content_at b.indent
  where
    content_at : Option ℕ → List ℕ
    content_at None = replicate b.blanks 10 ++ drop (indentation l) l
    content_at (Some indent) = joint b.style.folded b.blanks ++ drop indent l

-- the indentation of a scalar's content, which the line sets where no line has set it
abbrev pub indent_of : Option ℕ → List ℕ → ℕ
indent_of None l = indentation l
indent_of (Some indent) l = indent

-- the scalar with a line that isn't blank
abbrev pub filled_block : Block → List ℕ → Block
filled_block b l = let text = b.text ++ content_of b l in
    record b { indent = Some (indent_of b.indent l); text = text; blanks = 0 }

abbrev pub with_line : Block → List ℕ → Block
with_line b l = cond (is_blank l) (record b { blanks = suc b.blanks }) (filled_block b l)

-- The text, once the scalar has ended; without a line that isn't blank it is empty, and with `+` it
-- has the blank lines. READS OTHERWISE than YAML 1.2.2: the last line counts as ended by a line
-- feed also where the text ends without one.
abbrev pub ended_text : Block → List ℕ
ended_text b = ended_at b.indent b.style.chomping
  where
    ended_at : Option ℕ → Chomping → List ℕ
    ended_at (Some indent) c = b.text ++ ending c b.blanks
    ended_at None Keep = replicate b.blanks 10
    ended_at None _ = []

-- the text of a block scalar with these lines
abbrev pub block_text : Style → List (List ℕ) → List ℕ
block_text s ls = ended_text (fold with_line (no_lines s) ls)
