-- Exclusions: stretches of time that don't count for an objective.
use Rattle.std.specs.Prelude.{◌≡◌, ℕ, Bool, true, not, IfSome, IsSome, ◌&&◌, nat_le, nat_lt, List}
use Rattle.std.specs.Prelude.{[], ◌∷◌, map, length, ◌≤◌, Option, None}
use Rattle.std.specs.List.{find, list_any}
use Rattle.std.specs.Str.{bytes_eq}
use Rattle.sample_book.specs.declared.exclusions.Exclusion.{Exclusion}

-- the exclusions that were made, each with whether it is live, and the room for more
pub record Kept : Type 0 where
  pub made : List (Exclusion × Bool)
  pub spare : ℕ

-- whether an exclusion is the one of this id
abbrev pub has_id : List ℕ → Exclusion × Bool → Bool
has_id id kept = bytes_eq kept.0.id id

-- the exclusion of an id, and whether it is live
abbrev pub exclusion_of : List (Exclusion × Bool) → List ℕ → Option (Exclusion × Bool)
exclusion_of made id = find (has_id id) made

-- no two exclusions have one id
abbrev pub HaveOwnIds : List (Exclusion × Bool) → Type 0
HaveOwnIds [] = Unit {0}
HaveOwnIds (kept ∷ made) = (exclusion_of made kept.0.id ≡ None) × HaveOwnIds made

-- A place in the list is a `u32`.
abbrev pub MOST_EXCLUSIONS : ℕ
MOST_EXCLUSIONS = 4294967295

-- each with an id of its own, and few enough that each place is a `u32`
pub record AreExclusions (made : List (Exclusion × Bool)) : Type 0 where
  pub apart : HaveOwnIds made
  pub few : length made ≤ MOST_EXCLUSIONS

-- a live exclusion of this objective has the minute: from <= minute < to
abbrev pub excludes : List ℕ → ℕ → Exclusion × Bool → Bool
excludes slo minute kept = kept.1 && bytes_eq kept.0.slo slo && nat_le kept.0.from minute
    && nat_lt minute kept.0.to

-- a minute is excluded where some live exclusion of the objective has it
abbrev pub is_excluded : List (Exclusion × Bool) → List ℕ → ℕ → Bool
is_excluded made slo minute = list_any (excludes slo minute) made

-- the exclusion of this id isn't live any more
abbrev pub after_lifting : List (Exclusion × Bool) → List ℕ → List (Exclusion × Bool)
after_lifting made id = map (λ kept. (kept.0, kept.1 && not (has_id id kept))) made

-- the exclusion of this id is live
abbrev pub IsLive : List (Exclusion × Bool) → List ℕ → Type 0
IsLive made id = IfSome (exclusion_of made id) (λ kept. kept.1 ≡ true)
    × IsSome (exclusion_of made id)

-- what happens to exclusions: one is made, or the one of an id is lifted
pub data Change : Type 0 where
  Excluded : Exclusion → Change
  Lifted : List ℕ → Change

-- the exclusions that were made
abbrev pub excluded_in : List Change → List Exclusion
excluded_in [] = []
excluded_in (Excluded value ∷ changes) = value ∷ excluded_in changes
excluded_in (Lifted id ∷ changes) = excluded_in changes

-- the ids that were lifted
abbrev pub lifted_in : List Change → List (List ℕ)
lifted_in [] = []
lifted_in (Excluded value ∷ changes) = lifted_in changes
lifted_in (Lifted id ∷ changes) = id ∷ lifted_in changes

-- an exclusion of the objective that isn't lifted has the minute: from <= minute < to
abbrev pub excludes_in : List Change → List ℕ → ℕ → Exclusion → Bool
excludes_in changes slo minute value =
    not (list_any (bytes_eq value.id) (lifted_in changes)) && bytes_eq value.slo slo
    && nat_le value.from minute && nat_lt minute value.to

-- a minute is excluded where some exclusion of the objective that isn't lifted has it
abbrev pub is_excluded_in : List Change → List ℕ → ℕ → Bool
is_excluded_in changes slo minute = list_any (excludes_in changes slo minute) (excluded_in changes)
