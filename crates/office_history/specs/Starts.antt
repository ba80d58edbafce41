-- How often the windows of calendars begin.
use Rattle.std.specs.Prelude.{ℕ, Bool, false, List, Option, Some, None}
use Rattle.std.specs.List.{list_any}
use Rattle.slo_duration.specs.declared.Duration.{Duration}
use Rattle.slo_limits.specs.declared.TheConstants.{MAX_STARTS}
use Rattle.object_terms.specs.Slo.{slo_in}
use Rattle.object_terms.specs.declared.Calendar.{Calendar}
use Rattle.object_terms.specs.declared.Object.{Object}
use Rattle.object_terms.specs.declared.Slo.{Slo}
use Rattle.zone_calendar.specs.Starts.{is_counted}

-- The windows begin more often than a list of starts may have: the start of number MAX_STARTS,
-- counted from 0, lies below the horizon, and all before it with it.
abbrev pub has_many_starts : ℕ → Duration → Option Calendar → Bool
has_many_starts horizon step None = false
has_many_starts horizon step (Some calendar) =
    is_counted calendar.start_time step horizon MAX_STARTS

abbrev pub has_many_starts_in : ℕ → Option Slo → Bool
has_many_starts_in horizon None = false
has_many_starts_in horizon (Some slo) =
    has_many_starts horizon slo.time_window.duration.span slo.time_window.calendar

abbrev pub begins_too_often : ℕ → Object → Bool
begins_too_often horizon o = has_many_starts_in horizon (slo_in o.body)

abbrev pub one_begins_too_often : ℕ → List Object → Bool
one_begins_too_often horizon members = list_any (begins_too_often horizon) members
