-- Zones by their names.
use Rattle.std.specs.Prelude.{◌≡◌, ◌≤◌, ℕ, false, List, [], ◌∷◌, length, is_none}
use Rattle.std.specs.List.{AllByRecursion}
use Rattle.std.specs.Str.{bytes_eq}
use Rattle.std.specs.Ordering.{match_ordering, nat_cmp}
use Rattle.std.specs.Cmp.Lexicographic.{slice_cmp}
use Rattle.slo_limits.specs.declared.TheConstants.{MAX_ZONE_BYTES}
use Rattle.zone_calendar.specs.ZoneBytes.{zone_of}
use Rattle.office_history.specs.Zones.{utc}

-- a zone at its place by the bytes of the names
abbrev pub with_zone : List ℕ × List ℕ → List (List ℕ × List ℕ) → List (List ℕ × List ℕ)
with_zone z [] = z ∷ []
with_zone z (y ∷ ys) =
    match_ordering (slice_cmp nat_cmp z.0 y.0) (z ∷ y ∷ ys) (z ∷ y ∷ ys) (y ∷ with_zone z ys)

-- the zones, each a name and its bytes, by the bytes of the names
abbrev pub zones_by_name : List (List ℕ × List ℕ) → List (List ℕ × List ℕ)
zones_by_name [] = []
zones_by_name (z ∷ zs) = with_zone z (zones_by_name zs)

-- a zone that can be put where no other has its name
pub record CanBePut (z : List ℕ × List ℕ) : Type 0 where
  pub other_name : bytes_eq z.0 utc ≡ false
  pub bytes_fit : length z.1 ≤ MAX_ZONE_BYTES
  pub is_zone : is_none (zone_of z.1) ≡ false

-- no two have one name
abbrev pub HaveOwnNames : List (List ℕ × List ℕ) → Type 0
HaveOwnNames [] = Unit {0}
HaveOwnNames (z ∷ zs) = AllByRecursion (λ y. bytes_eq z.0 y.0 ≡ false) zs × HaveOwnNames zs
