-- How far live exclusions reach, in the order in which an excluded minute is looked for.
use Rattle.std.specs.Prelude.{◌≡◌, ◌≤◌, ◌+◌, ◌&&◌, ℕ, Bool, List, [], ◌∷◌, length, map, filter, max}
use Rattle.std.specs.Prelude.{false, nat_le, nat_lt, true, if◌then◌else◌, None, Option, Some}
use Rattle.std.specs.List.{list_any}
use Rattle.std.specs.List.Sorted.{IsPartitionPoint, IsSortedByKey}
use Rattle.std.specs.Str.{bytes_eq}
use Rattle.std.specs.Cmp.Lexicographic.{slice_cmp}
use Rattle.std.specs.Ordering.{is_le, nat_cmp, ordering_then}
use Rattle.std.specs.declared.cmp.Ordering.{Ordering}
use Rattle.sample_book.specs.Exclusions.{AreExclusions, MOST_EXCLUSIONS, is_excluded}
use Rattle.sample_book.specs.declared.exclusions.Exclusion.{Exclusion}
use Rattle.sample_book.specs.declared.reaches.Reach.{Reach}

-- an exclusion by itself reaches to its own end
abbrev pub reach_of : Exclusion → Reach
reach_of value = record { slo = value.slo; from = value.from; to = value.to }

-- the live exclusions, in the order in which they were made
abbrev pub live_reaches : List (Exclusion × Bool) → List Reach
live_reaches made = map (λ kept. reach_of kept.0) (filter (λ kept. kept.1) made)

-- a reach has a minute of an objective: from <= minute < to
abbrev pub has_minute : List ℕ → ℕ → Reach → Bool
has_minute slo minute reach =
    bytes_eq reach.slo slo && nat_le reach.from minute && nat_lt minute reach.to

-- minutes of objectives in one order: by the objective's name, then by the minute
abbrev pub place_cmp : List ℕ × ℕ → List ℕ × ℕ → Ordering
place_cmp a b = ordering_then (slice_cmp nat_cmp a.0 b.0) (nat_cmp a.1 b.1)

-- where a reach begins, and where it ends
abbrev pub start_of : Reach → List ℕ × ℕ
start_of reach = (reach.slo, reach.from)

abbrev pub end_of : Reach → List ℕ × ℕ
end_of reach = (reach.slo, reach.to)

-- a reach begins at or before a minute of an objective
abbrev pub begins_by : List ℕ → ℕ → Reach → Bool
begins_by slo minute reach = is_le (place_cmp (start_of reach) (slo, minute))

-- a reach that may be there is, and begins at or before a minute of an objective
abbrev pub begins_at : List ℕ → ℕ → Option Reach → Bool
begins_at slo minute None = false
begins_at slo minute (Some reach) = begins_by slo minute reach

-- just the first so many of them begin at or before a minute of an objective
pub record HaveBegun (slo : List ℕ) (minute : ℕ) (reaches : List Reach) (count : ℕ) : Type 0 where
  pub within : count ≤ length reaches
  pub begun : IsPartitionPoint (λ reach. begins_by slo minute reach ≡ true)
      (λ reach. begins_by slo minute reach ≡ false) reaches count

-- a reach is of an objective
abbrev pub is_reach_of : List ℕ → Reach → Bool
is_reach_of slo reach = bytes_eq reach.slo slo

-- a reach is of an objective, and ends behind a minute
abbrev pub goes_past : List ℕ → ℕ → Reach → Bool
goes_past slo minute reach = bytes_eq reach.slo slo && nat_lt minute reach.to

-- in the order in which they begin; and of an objective none ends sooner than one before it
pub record AreOrdered (reaches : List Reach) : Type 0 where
  pub starts : IsSortedByKey start_of place_cmp reaches
  pub ends : IsSortedByKey end_of place_cmp reaches

-- they have the excluded minutes, and are no more than the exclusions
pub record AreReaches (made : List (Exclusion × Bool)) (reaches : List Reach) : Type 0 where
  pub ordered : AreOrdered reaches
  pub minutes : (slo : List ℕ) (minute : ℕ)
      → list_any (has_minute slo minute) reaches ≡ is_excluded made slo minute
  pub few : length reaches ≤ length made

-- a reach ends no sooner than the one before it, where that is of the same objective
abbrev pub joined : Reach → Reach → Reach
joined before reach =
    if bytes_eq before.slo reach.slo then record {
      slo = reach.slo;
      from = reach.from;
      to = max reach.to before.to;
    } else reach

-- each goes on as far as the one before it
abbrev pub joined_after : Reach → List Reach → List Reach
joined_after before [] = []
joined_after before (reach ∷ reaches) =
    joined before reach ∷ joined_after (joined before reach) reaches

abbrev pub all_joined : List Reach → List Reach
all_joined [] = []
all_joined (reach ∷ reaches) = reach ∷ joined_after reach reaches

-- the exclusions, how far they reach, and the room for so many more of both
pub record AreListed (made : List (Exclusion × Bool)) (reaches : List Reach)
    (room capacity capacity' : ℕ) : Type 0 where
  pub exclusions : AreExclusions made
  pub in_step : AreReaches made reaches
  pub few : length made + room ≤ MOST_EXCLUSIONS
  pub ready : length made + room ≤ capacity
  pub listed : length made + room ≤ capacity'
