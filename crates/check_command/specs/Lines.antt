-- The lines that `check` prints.
use Rattle.std.specs.Prelude.{ℕ, [], ◌∷◌, ◌++◌, List, codes}
use Rattle.std.specs.Fmt.{decimal}

-- What `check` prints for so many documents and so many objects.
abbrev pub check_lines : ℕ → ℕ → List ℕ
check_lines documents objects =
    codes "documents " ++ (decimal documents ++ 10 ∷
    (codes "objects " ++ (decimal objects ++ 10 ∷ [])))
