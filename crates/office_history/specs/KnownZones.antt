-- The zones that the calendars of objects name.
use Rattle.std.specs.Prelude.{ℕ, Bool, ◌||◌, cond, List, [], ◌∷◌, Option, Some, None, codes}
use Rattle.std.specs.List.{list_any}
use Rattle.std.specs.Option.{option_or}
use Rattle.std.specs.Str.{bytes_eq}
use Rattle.object_terms.specs.Slo.{slo_in}
use Rattle.object_terms.specs.declared.Calendar.{Calendar}
use Rattle.object_terms.specs.declared.Object.{Object}
use Rattle.object_terms.specs.declared.Slo.{Slo}

abbrev pub is_among : List (List ℕ) → List ℕ → Bool
is_among zones name = list_any (bytes_eq name) zones

-- `UTC` is always known
abbrev pub is_known_zone : List (List ℕ) → List ℕ → Bool
is_known_zone zones name = bytes_eq name (codes "UTC") || is_among zones name

abbrev pub unknown_zone_of : List (List ℕ) → Option Calendar → Option (List ℕ)
unknown_zone_of zones None = None
unknown_zone_of zones (Some calendar) =
    cond (is_known_zone zones calendar.time_zone) None (Some calendar.time_zone)

-- the zone of an SLO's calendar, where it isn't known
abbrev pub unknown_zone_in : List (List ℕ) → Option Slo → Option (List ℕ)
unknown_zone_in zones None = None
unknown_zone_in zones (Some slo) = unknown_zone_of zones slo.time_window.calendar

-- the first zone of the objects that isn't known
abbrev pub first_unknown_zone : List (List ℕ) → List Object → Option (List ℕ)
first_unknown_zone zones [] = None
first_unknown_zone zones (o ∷ os) =
    option_or (unknown_zone_in zones (slo_in o.body)) (first_unknown_zone zones os)
