-- The sample rows of differences.
use Rattle.std.specs.Prelude.{ℕ, List, [], ◌∷◌, ◌++◌, decimal}
use Rattle.counter_book.specs.declared.Difference.{Difference}

-- a text, a byte behind it, and then more
abbrev pub field : List ℕ → ℕ → List ℕ → List ℕ
field text mark more = text ++ mark ∷ more

-- The row `SLI,source,minute,revision,part,total` of a difference, with a line feed.
unfoldable pub row_of : List ℕ → Difference → List ℕ
row_of sli d = field sli 44 (field d.source 44 (field (decimal d.minute) 44
    (field (decimal d.revision) 44 (field (decimal d.part) 44 (field (decimal d.total) 10 [])))))

-- the rows of differences, one behind another
abbrev pub rows_of : List ℕ → List Difference → List ℕ
rows_of sli [] = []
rows_of sli (d ∷ ds) = row_of sli d ++ rows_of sli ds
