-- The length of a writing, up to a most.
use Rattle.std.specs.Prelude.{ℕ, ◌-◌, ◌==◌, ◌||◌, nat_le, Bool, Option, Some, None, cond}

-- a length, where it is at most so much
abbrev pub up_to : ℕ → ℕ → Option ℕ
up_to most n = cond (nat_le n most) (Some n) None

-- the room that is left behind n bytes, none where they are too many
abbrev pub room_behind : Option ℕ → ℕ → Option ℕ
room_behind None n = None
room_behind (Some room) n = cond (nat_le n room) (Some (room - n)) None

-- a byte that is written as two in double quotes
abbrev pub is_escaped : ℕ → Bool
is_escaped c = c == 92 || c == 34 || c == 10 || c == 9
