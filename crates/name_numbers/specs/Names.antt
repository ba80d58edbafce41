-- Names that are numbered in the order in which they came.
use Rattle.std.specs.Prelude.{◌≡◌, ◌≤◌, ◌^◌, ℕ, List, [], ◌∷◌, ◌++◌, length, Option, Some, None}
use Rattle.std.specs.Prelude.{slice_index_or}
use Rattle.std.specs.List.{IsDistinct}
use Rattle.std.specs.Str.{bytes_eq}

-- the name of a number
abbrev pub name_at : List (List ℕ) → ℕ → List ℕ
name_at names number = slice_index_or names number []

-- names were added behind those that were there
pub record IsGrown (old new : List (List ℕ)) : Type 0 where
  pub added : List (List ℕ)
  pub grown : new ≡ old ++ added

-- each name once, and few enough that each number is a `u32`
pub record AreApart (names : List (List ℕ)) : Type 0 where
  pub distinct : IsDistinct bytes_eq names
  pub few : length names ≤ 2 ^ 32

-- the number of a name, or the one that it would get behind so many
abbrev pub IsNumber : Option ℕ → ℕ → ℕ → Type 0
IsNumber None count number = number ≡ count
IsNumber (Some place) count number = number ≡ place

-- the names, with one that may be new
abbrev pub named_with : Option ℕ → List (List ℕ) → List ℕ → List (List ℕ)
named_with None names name = names ++ name ∷ []
named_with (Some place) names name = names
