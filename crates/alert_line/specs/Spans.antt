-- Stretches of time with one more minute at their end.
use Rattle.std.specs.Prelude.{ℕ, ◌+◌, ◌==◌, List, [], ◌∷◌, if◌then◌else◌}

abbrev pub one_minute : ℕ → ℕ × ℕ
one_minute minute = (minute, minute + 1)

-- the minutes from one up to another join the last stretch where that ends there; else they are a
-- stretch of their own
abbrev pub with_stretch : List (ℕ × ℕ) → ℕ → ℕ → List (ℕ × ℕ)
with_stretch [] from to = (from, to) ∷ []
with_stretch (span ∷ []) from to = if span.1 == from then (span.0, to) ∷ []
    else span ∷ (from, to) ∷ []
with_stretch (span ∷ next ∷ rest) from to = span ∷ with_stretch (next ∷ rest) from to

-- the minute joins the last stretch where that ends there; else it is one of its own
abbrev pub with_minute : List (ℕ × ℕ) → ℕ → List (ℕ × ℕ)
with_minute [] minute = one_minute minute ∷ []
with_minute (span ∷ []) minute = if span.1 == minute then (span.0, minute + 1) ∷ []
    else span ∷ one_minute minute ∷ []
with_minute (span ∷ next ∷ rest) minute = span ∷ with_minute (next ∷ rest) minute
