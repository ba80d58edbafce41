-- Parts of lists.
use Rattle.std.specs.Prelude.{ℕ, ◌-◌, ◌*◌, zero, suc, List, [], ◌∷◌, take, drop, length}

-- Items, so many at a time: the last part has fewer. (The first number is fuel, of which the length
-- is always enough.)
abbrev pub parts_within : {A : Type 0} → ℕ → ℕ → List A → List (List A)
parts_within zero most xs = []
parts_within (suc fuel) most [] = []
parts_within (suc fuel) most (x ∷ xs) =
    take most (x ∷ xs) ∷ parts_within fuel most (drop most (x ∷ xs))

-- a thousand at a time
abbrev pub in_thousands : {A : Type 0} → List A → List (List A)
in_thousands xs = parts_within (length xs) 1000 xs

-- the thousand of this number, counted from 1
abbrev pub part_of : {A : Type 0} → ℕ → List A → List A
part_of part xs = take 1000 (drop (1000 * (part - 1)) xs)
