-- The window that holds a minute: in a list of starts, and without a list.
use Rattle.std.specs.Prelude.{◌≡◌, ℕ, ◌<◌, ◌≤◌, true, List, Contains, All, Option, Some, None}
use Rattle.slo_duration.specs.declared.duration.Duration.{Duration}
use Rattle.zone_calendar.specs.Zone.{ZoneText}
use Rattle.zone_calendar.specs.Starts.{is_counted, start_at}
use Rattle.zone_calendar.specs.declared.civil.Civil.{Civil}

-- the greatest start at or before the minute
pub record IsGreatestStart (starts : List ℕ) (minute start : ℕ) : Type 0 where
  pub is_start : Contains starts start
  pub begun : start ≤ minute
  pub greatest : All (λ other. other ≤ minute → other ≤ start) starts

-- the least start after another, or none where no start is after it
abbrev pub IsNextStart : List ℕ → ℕ → Option ℕ → Type 0
IsNextStart starts start None = All (λ other. other ≤ start) starts
IsNextStart starts start (Some next) = Contains starts next × (start < next)
    × All (λ other. start < other → next ≤ other) starts

-- the window that holds a minute: where it starts, and where the next one does
pub record IsWindow (starts : List ℕ) (minute : ℕ) (window : ℕ × Option ℕ) : Type 0 where
  pub start : IsGreatestStart starts minute window.0
  pub next : IsNextStart starts window.0 window.1

-- the greatest start of a list at or before a minute, or none where all are after it
abbrev pub IsLastOf : List ℕ → ℕ → Option ℕ → Type 0
IsLastOf starts minute None = All (λ other. minute < other) starts
IsLastOf starts minute (Some start) = IsGreatestStart starts minute start

-- of the numbers with a property, one has the greatest value at or before a minute
pub record IsGreatest (Has : ℕ → Type 0) (value : ℕ → ℕ) (minute greatest : ℕ) : Type 0 where
  pub number : ℕ
  pub has : Has number
  pub is_value : greatest ≡ value number
  pub begun : greatest ≤ minute
  pub above : (k : ℕ) → Has k → value k ≤ minute → value k ≤ greatest

-- the last value at or before a minute, of those at the numbers with a property; none where all
-- are after the minute
abbrev pub IsLast : (ℕ → Type 0) → (ℕ → ℕ) → ℕ → Option ℕ → Type 0
IsLast Has value minute None = (k : ℕ) → Has k → minute < value k
IsLast Has value minute (Some greatest) = IsGreatest Has value minute greatest

-- the last start at or before a minute, of all that count below the horizon
abbrev pub IsLastStart : ZoneText → Civil → Duration → ℕ → ℕ → Option ℕ → Type 0
IsLastStart zone first step horizon minute start =
    IsLast (λ k. is_counted first step horizon k ≡ true) (start_at zone first step) minute start

-- the last start at or before a minute, of those of the numbers from one to another
abbrev pub IsLastAmong : ZoneText → Civil → Duration → ℕ → ℕ → ℕ → Option ℕ → Type 0
IsLastAmong zone first step from to minute start =
    IsLast (λ k. (from ≤ k) × (k < to)) (start_at zone first step) minute start
