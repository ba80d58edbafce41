-- Zones that are found by their names.
use Rattle.std.proofs.Common.{◌≡◌, ◌∙◌, ℕ, Bool, true, false, cond, List, [], ◌∷◌, refl, ap, sym}
use Rattle.std.proofs.Common.{map, Option, Some, option_map, option_and_then}
use Rattle.std.specs.List.{AllByRecursion, find}
use Rattle.std.specs.Str.{bytes_eq}
use Rattle.zone_calendar.specs.ZoneBytes.{zone_of}
use Rattle.office_history.specs.Zones.{bytes_named}
use Rattle.office_derived.specs.Zones.{ZoneIsRead}
use Rattle.office_derived.specs.declared.zones.KeptZone.{KeptZone}
use Rattle.office_derived.proofs.Lists.{map-map}

abbrev named_bytes : List KeptZone → List (List ℕ × List ℕ)
named_bytes zones = map (λ (k : KeptZone). (k.name, k.bytes)) zones

abbrev first_named : List KeptZone → List ℕ → Option KeptZone
first_named zones name = find (λ (zone : KeptZone). bytes_eq zone.name name) zones

-- the bytes of a name are those of the first zone of that name
pub bytes_found : (zones : List KeptZone) (name : List ℕ)
    → option_map (λ (k : KeptZone). k.bytes) (first_named zones name)
    ≡ bytes_named (named_bytes zones) name
bytes_found [] name = refl
bytes_found (z ∷ zs) name = by (bytes_eq z.name name) (bytes_found zs name)
  where
    by : (b : Bool) → option_map (λ (k : KeptZone). k.bytes) (first_named zs name)
        ≡ bytes_named (named_bytes zs) name →
        option_map (λ (k : KeptZone). k.bytes) (cond b (Some z) (first_named zs name))
        ≡ option_map (λ (kept : List ℕ × List ℕ). kept.1) (cond b (Some (z.name, z.bytes))
        (find (λ (kept : List ℕ × List ℕ). bytes_eq kept.0 name) (named_bytes zs)))
    by true h = refl
    by false h = h

-- and they are that zone
pub zone_found : (zones : List KeptZone) (name : List ℕ) →
    AllByRecursion (λ (k : KeptZone). ZoneIsRead k.bytes k.zone) zones →
    option_map (λ (k : KeptZone). k.zone) (first_named zones name)
    ≡ option_and_then zone_of (bytes_named (named_bytes zones) name)
zone_found zones name all = by_found zones all
    ∙ ap (option_and_then zone_of) (bytes_found zones name)
  where
    by_found : (zs : List KeptZone)
        → AllByRecursion (λ (k : KeptZone). ZoneIsRead k.bytes k.zone) zs →
        option_map (λ (k : KeptZone). k.zone) (first_named zs name)
        ≡ option_and_then zone_of (option_map (λ (k : KeptZone). k.bytes) (first_named zs name))
    by_found [] all = refl
    by_found (z ∷ zs) all = by (bytes_eq z.name name) (by_found zs all.1)
      where
        by : (b : Bool) → option_map (λ (k : KeptZone). k.zone) (first_named zs name)
            ≡ option_and_then zone_of
            (option_map (λ (k : KeptZone). k.bytes) (first_named zs name)) →
            option_map (λ (k : KeptZone). k.zone) (cond b (Some z) (first_named zs name))
            ≡ option_and_then zone_of
            (option_map (λ (k : KeptZone). k.bytes) (cond b (Some z) (first_named zs name)))
        by true h = sym all.0
        by false h = h

pub names_of : (zones : List KeptZone) → map (λ (k : KeptZone). k.name) zones
    ≡ map (λ (kept : List ℕ × List ℕ). kept.0) (named_bytes zones)
names_of zones =
    sym (map-map (λ (kept : List ℕ × List ℕ). kept.0) (λ (k : KeptZone). (k.name, k.bytes)) zones)
