-- Cells by the numbers of their pairs.
use Rattle.std.specs.Prelude.{◌≡◌, ◌<◌, ◌≤◌, ℕ, Bool, ◌&&◌, nat_eq, List, All, length, take}
use Rattle.std.specs.Prelude.{Some, None}
use Rattle.std.specs.List.{IsDistinct, position}
use Rattle.cell_index.specs.Pairs.{pair_at, pair_eq, pair_of}
use Rattle.cell_index.specs.declared.cells.Key.{Key}
use Rattle.cell_index.specs.declared.cell.Cell.{Cell}
use Rattle.cell_index.specs.declared.pairs.Pair.{Pair}

-- whether two keys are one
abbrev pub key_eq : Key → Key → Bool
key_eq a b = nat_eq a.pair b.pair && nat_eq a.minute b.minute

-- the cell of a key, by the pair of its number
abbrev pub cell_named : List Pair → Key → Cell
cell_named pairs key = record {
  sli = (pair_at pairs key.pair).sli;
  source = (pair_at pairs key.pair).source;
  minute = key.minute;
}

-- the key's pair is among the first so many
abbrev pub IsNamed : ℕ → Key → Type 0
IsNamed pairs key = key.pair < pairs

-- the key has the number of the cell's pair, and each pair stands once
pub record IsKeyOf (pairs : List Pair) (cell : Cell) (key : Key) : Type 0 where
  pub number : position (pair_eq (pair_of cell)) pairs ≡ Some key.pair
  pub minute : key.minute ≡ cell.minute
  pub apart : IsDistinct pair_eq pairs

-- the cell's pair has no number
abbrev pub HasNoKey : List Pair → Cell → Type 0
HasNoKey pairs cell = position (pair_eq (pair_of cell)) pairs ≡ None

-- each key has a pair, and the first keys have the first so many pairs alone
pub record AreKnown (pairs : List Pair) (keys : List Key) (settled settled_pairs : ℕ) : Type 0
  where
    pub named : All (IsNamed (length pairs)) keys
    pub within : settled ≤ length keys
    pub numbered : All (IsNamed settled_pairs) (take settled keys)
