-- What `counters` takes of its source.
use Rattle.std.specs.Prelude.{◌≡◌, ◌<◌, ◌≤◌, ℕ, List, [], length, Option, Some, None, ⊤}
use Rattle.office_outside.specs.Told.{Lost}

-- the bytes that were left are these, and none is left
abbrev pub HasRead : List ℕ → Option (List ℕ) → Option (List ℕ) → Type 0
HasRead bytes None new = ⊤
HasRead bytes (Some old) None = ⊥
HasRead bytes (Some old) (Some new) = (old ≡ bytes) × (new ≡ [])

-- more bytes than this are left
abbrev pub HasMore : ℕ → Option (List ℕ) → Type 0
HasMore most None = ⊤
HasMore most (Some left) = most < length left

-- the source lost these bytes from its front, and they are no more than that
pub record TakesAtMost (most : ℕ) (old new : Option (List ℕ)) : Type 0 where
  pub bytes : List ℕ
  pub lost : Lost bytes old new
  pub few : length bytes ≤ most
