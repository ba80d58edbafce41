-- The zones of a history: `UTC`, and those whose bytes were kept under a name.
use Rattle.std.specs.Prelude.{ℕ, cond, List, [], ◌∷◌, Option, Some, option_and_then, option_map}
use Rattle.std.specs.Prelude.{codes}
use Rattle.std.specs.List.{flat_map, find}
use Rattle.std.specs.Str.{bytes_eq}
use Rattle.zone_calendar.specs.Zone.{ZoneText, utc_text}
use Rattle.zone_calendar.specs.ZoneBytes.{zone_of}
use Rattle.record_form.specs.declared.Command.{Command}
use Rattle.record_form.specs.declared.Command.TheVariants.{PutZone}
use Rattle.record_form.specs.declared.Entry.{Entry}

-- the name of the zone that is always there
abbrev pub utc : List ℕ
utc = codes "UTC"

abbrev pub zones_of : Command → List (List ℕ × List ℕ)
zones_of (PutZone name bytes) = (name, bytes) ∷ []
zones_of _ = []

-- the names under which bytes were kept, with the bytes, in order
abbrev pub zones_in : List Entry → List (List ℕ × List ℕ)
zones_in history = flat_map (λ (e : Entry). zones_of e.command) history

-- the bytes that are kept under a name
abbrev pub bytes_named : List (List ℕ × List ℕ) → List ℕ → Option (List ℕ)
bytes_named zones name = option_map (λ kept. kept.1) (find (λ kept. bytes_eq kept.0 name) zones)

-- the zone of a name: Coordinated Universal Time, or what the kept bytes say
abbrev pub zone_named : List (List ℕ × List ℕ) → List ℕ → Option ZoneText
zone_named zones name =
    cond (bytes_eq name utc) (Some utc_text) (option_and_then zone_of (bytes_named zones name))
