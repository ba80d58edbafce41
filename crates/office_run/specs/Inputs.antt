-- What a command takes of its source.
use Rattle.std.specs.Prelude.{◌≡◌, ℕ, List, [], Option, Some, None, ⊤}

-- the bytes that were left are these, and none is left
abbrev pub HasRead : List ℕ → Option (List ℕ) → Option (List ℕ) → Type 0
HasRead bytes None new = ⊤
HasRead bytes (Some old) None = ⊥
HasRead bytes (Some old) (Some new) = (old ≡ bytes) × (new ≡ [])
