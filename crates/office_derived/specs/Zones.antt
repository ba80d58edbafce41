-- The zones that are kept.
use Rattle.std.specs.Prelude.{◌≡◌, ℕ, List, Some}
use Rattle.zone_calendar.specs.ZoneBytes.{zone_of}
use Rattle.zone_calendar.specs.Zone.{ZoneText}

-- the names of zones with their bytes, in the order in which they were put, and room for more
pub record KeptZones : Type 0 where
  pub kept : List (List ℕ × List ℕ)
  pub spare : ℕ

-- a zone is the one that its bytes are
abbrev pub ZoneIsRead : List ℕ → ZoneText → Type 0
ZoneIsRead bytes zone = zone_of bytes ≡ Some zone
