-- The windows over which an SLO's budgets are counted (OpenSLO v1, `timeWindow`): the one at a
-- minute, and those of a calendar that begin in a stretch of minutes.
use Rattle.std.specs.Prelude.{◌≡◌, ℕ, ◌+◌, ◌-◌, ◌<◌, ◌≤◌, true, List, [], ◌∷◌, Option, Some, None}
use Rattle.slo_duration.specs.declared.Duration.{Duration}
use Rattle.slo_duration.specs.Minutes.{minutes_of}
use Rattle.zone_calendar.specs.Starts.{is_counted, start_at}
use Rattle.zone_calendar.specs.Window.{IsLastStart}
use Rattle.zone_calendar.specs.Zone.{ZoneText}
use Rattle.object_terms.specs.declared.window.Calendar.{Calendar}
use Rattle.object_terms.specs.declared.window.TimeWindow.{TimeWindow}
use Rattle.office_history.specs.Zones.{zone_named}

-- the last start of a calendar at or before a minute, of all that lie below the horizon, by the
-- clock of its zone; none where the zone isn't there
abbrev pub BeginsIn : Option ZoneText → Calendar → Duration → ℕ → ℕ → Option ℕ → Type 0
BeginsIn None calendar step horizon minute start = start ≡ None
BeginsIn (Some zone) calendar step horizon minute start =
    IsLastStart zone calendar.start_time step horizon minute start

abbrev pub BeginsBy : List (List ℕ × List ℕ) → Duration → ℕ → ℕ → Option Calendar
    → Option ℕ → Type 0
BeginsBy zones duration horizon minute None start = start ≡ Some (minute - minutes_of duration)
BeginsBy zones duration horizon minute (Some calendar) start =
    BeginsIn (zone_named zones calendar.time_zone) calendar duration horizon minute start

-- Where the window at a minute begins: so many minutes before it where it is rolling, and not
-- before 0; else at the calendar's last start at or before it, where there is one.
abbrev pub WindowBegins : List (List ℕ × List ℕ) → TimeWindow → ℕ → ℕ → Option ℕ → Type 0
WindowBegins zones window horizon minute start =
    BeginsBy zones window.duration.span horizon minute window.calendar start

-- A minute at which a window begins: a start of its calendar, of all that count below the horizon,
-- by the clock of its zone. There is none where the zone isn't there.
abbrev pub IsStartIn : Option ZoneText → Calendar → Duration → ℕ → ℕ → Type 0
IsStartIn None calendar step horizon minute = ⊥
IsStartIn (Some zone) calendar step horizon minute =
    (k : ℕ) × (is_counted calendar.start_time step horizon k ≡ true)
    × (minute ≡ start_at zone calendar.start_time step k)

-- a rolling window has no starts
abbrev pub IsStartBy : List (List ℕ × List ℕ) → Duration → ℕ → Option Calendar → ℕ → Type 0
IsStartBy zones duration horizon None minute = ⊥
IsStartBy zones duration horizon (Some calendar) minute =
    IsStartIn (zone_named zones calendar.time_zone) calendar duration horizon minute

abbrev pub IsStart : List (List ℕ × List ℕ) → TimeWindow → ℕ → ℕ → Type 0
IsStart zones window horizon minute =
    IsStartBy zones window.duration.span horizon window.calendar minute

-- the least of them from a minute on, or that there is none
abbrev pub IsFirstFrom : (ℕ → Type 0) → ℕ → Option ℕ → Type 0
IsFirstFrom Starts from None = (s : ℕ) → Starts s → s < from
IsFirstFrom Starts from (Some first) =
    Starts first × (from ≤ first) × ((s : ℕ) → Starts s → from ≤ s → first ≤ s)

-- all of them in [from, to), each once, in order
abbrev pub AreStartsIn : (ℕ → Type 0) → ℕ → ℕ → List ℕ → Type 0
AreStartsIn Starts from to [] = (s : ℕ) → Starts s → from ≤ s → to ≤ s
AreStartsIn Starts from to (b ∷ bs) =
    IsFirstFrom Starts from (Some b) × (b < to) × AreStartsIn Starts (b + 1) to bs
