-- Histories, and positions in them.
use Rattle.std.specs.Prelude.{◌≡◌, ◌⊎◌, ℕ, List, [], ◌∷◌, ◌++◌}

-- the new list begins with the old one
abbrev pub Extends : {X : Type 0} → List X → List X → Type 0
Extends {X} old new = (more : List X) × (new ≡ old ++ more)

-- one of them begins with the other
abbrev pub Comparable : {X : Type 0} → List X → List X → Type 0
Comparable a b = Extends a b ⊎ Extends b a

-- p is among these positions
abbrev pub Has : List ℕ → ℕ → Type 0
Has [] p = ⊥
Has (x ∷ xs) p = (p ≡ x) ⊎ Has xs p

-- no position stands twice
abbrev pub Distinct : List ℕ → Type 0
Distinct [] = Unit {0}
Distinct (x ∷ xs) = (Has xs x → ⊥) × Distinct xs
