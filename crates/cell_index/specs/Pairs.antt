-- Pairs of an indicator and a source, by the numbers of their names.
use Rattle.std.specs.Prelude.{◌≡◌, ◌<◌, ◌≤◌, ◌^◌, ◌&&◌, ◌++◌, ◌∷◌, [], ℕ, Bool, nat_eq, List, All}
use Rattle.std.specs.Prelude.{length, map, slice_index_or, Option, Some, None, ◌⊎◌}
use Rattle.std.specs.List.{IsDistinct, position}
use Rattle.std.specs.Str.{bytes_eq}
use Rattle.name_numbers.specs.Names.{name_at}
use Rattle.cell_index.specs.declared.cell.Cell.{Cell}
use Rattle.cell_index.specs.declared.pairs.Numbers.{Numbers}
use Rattle.cell_index.specs.declared.pairs.Pair.{Pair}

-- whether two pairs are one
abbrev pub pair_eq : Pair → Pair → Bool
pair_eq a b = bytes_eq a.sli b.sli && bytes_eq a.source b.source

-- the pair that a cell is of
abbrev pub pair_of : Cell → Pair
pair_of cell = record { sli = cell.sli; source = cell.source }

-- the pair of a number
abbrev pub pair_at : List Pair → ℕ → Pair
pair_at pairs number = slice_index_or pairs number (record { sli = []; source = [] })

-- pairs were added behind those that were there
pub record IsLonger (old new : List Pair) : Type 0 where
  pub added : List Pair
  pub longer : new ≡ old ++ added

-- whether two pairs of numbers are one
abbrev pub numbers_eq : Numbers → Numbers → Bool
numbers_eq a b = nat_eq a.sli b.sli && nat_eq a.source b.source

-- the pair of two numbers, by their names
abbrev pub pair_named : List (List ℕ) → List (List ℕ) → Numbers → Pair
pair_named slis sources numbers = record {
  sli = name_at slis numbers.sli;
  source = name_at sources numbers.source;
}

-- both numbers are among the first so many
pub record HaveNames (slis sources : ℕ) (numbers : Numbers) : Type 0 where
  pub sli : numbers.sli < slis
  pub source : numbers.source < sources

-- the numbers of a cell's names, each of which stands once
pub record AreNumbersOf (slis sources : List (List ℕ)) (cell : Cell) (numbers : Numbers) : Type 0
  where
    pub sli : position (bytes_eq cell.sli) slis ≡ Some numbers.sli
    pub source : position (bytes_eq cell.source) sources ≡ Some numbers.source
    pub slis_apart : IsDistinct bytes_eq slis
    pub sources_apart : IsDistinct bytes_eq sources

-- one of the cell's names has no number
abbrev pub HasNoNumbers : List (List ℕ) → List (List ℕ) → Cell → Type 0
HasNoNumbers slis sources cell = (position (bytes_eq cell.sli) slis ≡ None)
    ⊎ (position (bytes_eq cell.source) sources ≡ None)

-- pairs of numbers, with one that may be new
abbrev pub pairs_with : Option ℕ → List Numbers → Numbers → List Numbers
pairs_with None pairs numbers = pairs ++ numbers ∷ []
pairs_with (Some place) pairs numbers = pairs

-- each pair has names and stands once, and they are so few that each number is a `u32`
pub record ArePaired (slis sources : List (List ℕ)) (pairs : List Numbers) : Type 0 where
  pub named : All (HaveNames (length slis) (length sources)) pairs
  pub apart : IsDistinct pair_eq (map (pair_named slis sources) pairs)
  pub few : length pairs ≤ 2 ^ 32
