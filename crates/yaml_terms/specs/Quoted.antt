-- Quoted scalars (YAML 1.2.2, sections 7.3.1 and 7.3.2), which end on their line.
use Rattle.std.specs.Prelude.{ℕ, ◌+◌, ◌==◌, Bool, true, false, List, [], ◌∷◌, Option, Some, None}
use Rattle.std.specs.Prelude.{cond, option_map}

-- a quoted scalar's text, how many bytes it takes behind its first quote, and whether it has an
-- escape that is none
pub record Quoted : Type 0 where
  pub text : List ℕ
  pub length : ℕ
  pub bad : Bool

-- the quote that ends it
abbrev pub quote_end : Quoted
quote_end = record { text = []; length = 1; bad = false }

-- a byte of the text, written with so many
abbrev pub with_byte : ℕ → ℕ → Quoted → Quoted
with_byte c n q = record { text = c ∷ q.text; length = n + q.length; bad = q.bad }

-- In single quotes, a quote is written twice; none where the line ends first.
abbrev pub single : List ℕ → Option Quoted
single [] = None
single (c ∷ []) = cond (c == 39) (Some quote_end) None
single (c ∷ d ∷ cs) = cond (c == 39)
    (cond (d == 39) (option_map (with_byte 39 2) (single cs)) (Some quote_end))
    (option_map (with_byte c 1) (single (d ∷ cs)))

-- what stands for a byte behind a backslash: the four escapes
abbrev pub escaped_byte : ℕ → Option ℕ
escaped_byte c = cond (c == 92) (Some 92)
    (cond (c == 34) (Some 34) (cond (c == 110) (Some 10) (cond (c == 116) (Some 9) None)))

abbrev pub with_escape : Option ℕ → Quoted → Quoted
with_escape (Some c) q = with_byte c 2 q
with_escape None q = record { text = q.text; length = 2 + q.length; bad = true }

-- In double quotes, a backslash begins an escape; none where the line ends first.
abbrev pub double : List ℕ → Option Quoted
double [] = None
double (c ∷ []) = cond (c == 34) (Some quote_end) None
double (c ∷ d ∷ cs) = cond (c == 34) (Some quote_end)
    (cond (c == 92) (option_map (with_escape (escaped_byte d)) (double cs))
    (option_map (with_byte c 1) (double (d ∷ cs))))

abbrev pub quoted : ℕ → List ℕ → Option Quoted
quoted c cs = cond (c == 39) (single cs) (double cs)
