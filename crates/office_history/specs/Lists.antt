-- Lists: each item with those before it, the first that is there, the last.
use Rattle.std.specs.Prelude.{List, [], ◌∷◌, map, Option, Some, None}

-- each item with those before it
abbrev pub with_before : {A : Type 0} → List A → List (List A × A)
with_before [] = []
with_before (x ∷ xs) = ([], x) ∷ map (λ p. (x ∷ p.0, p.1)) (with_before xs)

-- the first that is there
abbrev pub first_some : {A : Type 0} → List (Option A) → Option A
first_some [] = None
first_some (Some x ∷ os) = Some x
first_some (None ∷ os) = first_some os

-- the last
abbrev pub last_of : {A : Type 0} → List A → Option A
last_of [] = None
last_of (x ∷ []) = Some x
last_of (x ∷ y ∷ ys) = last_of (y ∷ ys)
