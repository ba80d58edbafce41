-- Fields of records, one behind another.
use Rattle.std.specs.Prelude.{ℕ, List, ◌∷◌, ◌++◌}

-- a text, a byte behind it, and then more
abbrev pub field : List ℕ → ℕ → List ℕ → List ℕ
field text mark more = text ++ mark ∷ more
