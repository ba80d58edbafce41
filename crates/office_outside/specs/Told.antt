-- What an object of the outside holds, or has left, where it tells. No call changes
-- whether it tells.
use Rattle.std.specs.Prelude.{◌≡◌, ℕ, ◌≤◌, List, [], ◌++◌, length, take, Option, Some, None, ⊤}

-- the object gained these bytes at its end
abbrev pub Gained : List ℕ → Option (List ℕ) → Option (List ℕ) → Type 0
Gained bytes None None = ⊤
Gained bytes None (Some new) = ⊥
Gained bytes (Some old) None = ⊥
Gained bytes (Some old) (Some new) = new ≡ old ++ bytes

-- the object gained a prefix of these bytes at its end
pub record GainedPrefix (bytes : List ℕ) (old new : Option (List ℕ)) : Type 0 where
  pub count : ℕ
  pub within : count ≤ length bytes
  pub gained : Gained (take count bytes) old new

-- the object lost these bytes from its front
abbrev pub Lost : List ℕ → Option (List ℕ) → Option (List ℕ) → Type 0
Lost bytes None None = ⊤
Lost bytes None (Some new) = ⊥
Lost bytes (Some old) None = ⊥
Lost bytes (Some old) (Some new) = old ≡ bytes ++ new

-- the object tells exactly if it told before
abbrev pub TellsAsBefore : Option (List ℕ) → Option (List ℕ) → Type 0
TellsAsBefore None None = ⊤
TellsAsBefore None (Some new) = ⊥
TellsAsBefore (Some old) None = ⊥
TellsAsBefore (Some old) (Some new) = ⊤

-- nothing is left, where the object tells
abbrev pub HasNothingLeft : Option (List ℕ) → Type 0
HasNothingLeft None = ⊤
HasNothingLeft (Some left) = left ≡ []
