-- What the doors of a server tell together, and how they are opened and closed.
use Rattle.std.specs.Prelude.{◌≡◌, ◌<◌, ◌≤◌, ℕ, ◌+◌, min, List, [], ◌∷◌, ◌++◌, length}
use Rattle.std.specs.Prelude.{Option, Some, None, flat_map}
use Rattle.office_outside.specs.Faults.{last_count}
use Rattle.office_doors.specs.Books.{Book}

-- What doors D over visits V tell together.
pub record Entrance (D V : Type 0) : Type 0 where
  -- the visits that aren't shared out among doors yet
  pub held : List V
  -- how many doors were opened
  pub opened : ℕ
  -- the doors that were closed, each as it then was
  pub closed : List D

-- the visits that a door has left
abbrev pub left_at : {V : Type 0} → Option (Book V) → List V
left_at None = []
left_at (Some book) = book.left

-- Doors are opened, and all visits shared out among them, unless there is no door.
pub record Opens {D V : Type 0} (told : D → Option (Book V)) (doors : List D)
    (old new : Entrance D V) : Type 0 where
  pub shared : old.held ≡ flat_map (λ d. left_at (told d)) doors ++ new.held
  pub whole : 0 < length doors → new.held ≡ []
  pub opened : new.opened ≡ old.opened + length doors
  pub closed : new.closed ≡ old.closed

-- nothing changes
abbrev pub Stays : {D V : Type 0} → Entrance D V → Entrance D V → Type 0
Stays old new = new ≡ old

-- a door is closed
abbrev pub Closes : {D V : Type 0} → D → Entrance D V → Entrance D V → Type 0
Closes door old new = new ≡ record old { closed = old.closed ++ door ∷ [] }

-- fewer doors were closed than were opened
abbrev pub HasOneOpen : {D V : Type 0} → Entrance D V → Type 0
HasOneOpen entrance = length entrance.closed < entrance.opened

-- never more doors were closed than were opened
abbrev pub IsClosedWithin : {D V : Type 0} → Entrance D V → Type 0
IsClosedWithin entrance = length entrance.closed ≤ entrance.opened

-- two counts together; a count stays at its last value
abbrev pub joined_count : ℕ → ℕ → ℕ
joined_count one other = min (one + other) last_count
