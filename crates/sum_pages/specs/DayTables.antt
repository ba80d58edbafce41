-- Tables that have of each day a value for each of its slots, in the order in which the days came.
use Rattle.std.specs.Prelude.{ℕ, Bool, ◌/◌, ◌%◌, nat_eq, is_some, List, [], unwrap_or}
use Rattle.std.specs.Prelude.{slice_index_or}
use Rattle.std.specs.Map.{lookup}

-- the values of a day; none where the day isn't there
abbrev pub values_of_day : {X : Type 0} → List (ℕ × List X) → ℕ → List X
values_of_day days day = unwrap_or (lookup (nat_eq day) days) []

-- the value of a slot, where each day has `count` of them; `nothing` where its day isn't there
abbrev pub value_at : {X : Type 0} → X → ℕ → List (ℕ × List X) → ℕ → X
value_at nothing count days slot =
    slice_index_or (values_of_day days (slot / count)) (slot % count) nothing

-- whether a day is there
abbrev pub is_day_of : {X : Type 0} → List (ℕ × List X) → ℕ → Bool
is_day_of days day = is_some (lookup (nat_eq day) days)
