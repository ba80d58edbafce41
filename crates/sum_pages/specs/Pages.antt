-- The leaf of each slot of time, kept day by day.
use Rattle.std.specs.Prelude.{ℕ, Bool, ◌+◌, ◌-◌, ◌*◌, ◌/◌, ◌<◌, ◌≤◌, ◌≡◌, ◌==◌, List, All, length}
use Rattle.std.specs.Prelude.{slice_index_or, if◌then◌else◌}
use Rattle.std.specs.Int.{◌∣◌}
use Rattle.std.specs.Map.{values_of}
use Rattle.exact_fraction.specs.declared.leaf.Leaf.{Leaf}
use Rattle.slo_terms.specs.Sums.{AreSound, leaves_over, most_events, sum_over}
use Rattle.sum_pages.specs.DayTables.{is_day_of, value_at}

-- How many slots an hour has, and of each day that is there the leaves of its slots, in the order
-- in which the days came.
pub record LeafDays : Type 0 where
  pub per_hour : ℕ
  pub days : List (ℕ × List Leaf)

-- the leaf of a slot without data
abbrev pub no_leaf : Leaf
no_leaf = record { num = 0; den = 0 }

-- how many slots a day has
abbrev pub slots_a_day : LeafDays → ℕ
slots_a_day pages = 24 * pages.per_hour

-- the leaf of a slot
abbrev pub leaf_at : LeafDays → ℕ → Leaf
leaf_at pages slot = value_at no_leaf (slots_a_day pages) pages.days slot

-- whether a day is there
abbrev pub has_day : LeafDays → ℕ → Bool
has_day pages day = is_day_of pages.days day

-- the leaf of each slot once that of one is `value`
abbrev pub leaf_after : LeafDays → ℕ → Leaf → ℕ → Leaf
leaf_after pages slot value other = if other == slot then value else leaf_at pages other

-- all slots together have this den at most
pub record HasAtMost (pages : LeafDays) (most : ℕ) : Type 0 where
  pub few : (first count : ℕ) → sum_over (λ slot. (leaf_at pages slot).den) first count ≤ most

-- the leaf at a place of a page, and none behind its end
abbrev pub leaf_in : List Leaf → ℕ → Leaf
leaf_in leaves place = slice_index_or leaves place no_leaf

-- a total that loses one leaf and gains another
abbrev pub new_total : Leaf → Leaf → Leaf → Leaf
new_total total before after =
    record { num = total.num - before.num + after.num; den = total.den - before.den + after.den }

-- the total has the one, and stays small with the other
pub record MayExchange (total before after : Leaf) : Type 0 where
  pub num : before.num ≤ total.num
  pub den : before.den ≤ total.den
  pub num_after : (new_total total before after).num ≤ most_events
  pub den_after : (new_total total before after).den ≤ most_events

-- what is kept of a page: 24 hours of leaves, the total of each hour and that of the day
pub record IsPage (leaves hours : List Leaf) (total : Leaf) : Type 0 where
  pub even : length leaves ≡ 24 * (length leaves / 24)
  pub all : length hours ≡ 24
  pub each : (hour : ℕ) → hour < 24 →
      leaf_in hours hour ≡ leaves_over (leaf_in leaves) (hour * (length leaves / 24))
      (length leaves / 24)
  pub day : total ≡ leaves_over (leaf_in leaves) 0 (length leaves)
  pub parts : (place : ℕ) → (leaf_in leaves place).num ≤ (leaf_in leaves place).den
  pub few : (leaves_over (leaf_in leaves) 0 (length leaves)).den ≤ most_events

-- what is kept of the pages
pub record ArePages (pages : LeafDays) : Type 0 where
  pub divides : pages.per_hour ∣ 60
  pub whole : All (λ leaves. length leaves ≡ slots_a_day pages) (values_of pages.days)
  pub sound : AreSound (leaf_at pages)
