-- Names in the order of their bytes.
use Rattle.std.specs.Prelude.{ℕ, Bool, true, false, List, [], ◌∷◌}
use Rattle.std.specs.Ordering.{match_ordering, nat_cmp}
use Rattle.std.specs.Cmp.Lexicographic.{slice_cmp}

-- whether a name comes behind another
abbrev pub is_behind : List ℕ → List ℕ → Bool
is_behind name other = match_ordering (slice_cmp nat_cmp name other) false false true

-- a name at its place among others
abbrev pub with_name : List ℕ → List (List ℕ) → List (List ℕ)
with_name name [] = name ∷ []
with_name name (n ∷ ns) = match_ordering (slice_cmp nat_cmp name n) (name ∷ n ∷ ns) (name ∷ n ∷ ns)
    (n ∷ with_name name ns)

-- the names by their bytes
abbrev pub names_in_order : List (List ℕ) → List (List ℕ)
names_in_order [] = []
names_in_order (n ∷ ns) = with_name n (names_in_order ns)
