use Rattle.std.proofs.Common.{◌∙◌, sym, ap, option_map, option_and_then}
use Rattle.std.specs.Option.{option_copied}
use Rattle.std.specs.List.{find}
use Rattle.std.specs.Str.{bytes_eq}
use Rattle.zone_calendar.specs.ZoneBytes.{zone_of}
use Rattle.office_history.specs.Zones.{bytes_named}
use Rattle.office_derived.specs.Zones.{KeptZones}
use Rattle.office_derived.specs.declared.zones.KeptZone.{KeptZone}
use Rattle.office_derived.proofs.ZoneLemmas.{zone_found}
use Rattle.office_derived.proofs.zones.Zones.zone_of.Goals as goal

pub returns-in-Some : goal.returns-in-Some
returns-in-Some c =
    ap (option_map (λ (k : KeptZone). k.zone))
    (sym (ap option_copied c.in-Some.is) ∙ c.kept_as.ensures
    ∙ ap (find (λ (zone : KeptZone). bytes_eq zone.name c.args.name)) c.deref.ensures.value)
    ∙ zone_found c.self.inside.kept.items c.args.name c.self.invariant
    ∙ ap (λ (zones : KeptZones). option_and_then zone_of (bytes_named zones.kept c.args.name))
    c.self.view_is

pub returns-in-None : goal.returns-in-None
returns-in-None c =
    ap (option_map (λ (k : KeptZone). k.zone))
    (sym (ap option_copied c.in-None.is) ∙ c.kept_as.ensures
    ∙ ap (find (λ (zone : KeptZone). bytes_eq zone.name c.args.name)) c.deref.ensures.value)
    ∙ zone_found c.self.inside.kept.items c.args.name c.self.invariant
    ∙ ap (λ (zones : KeptZones). option_and_then zone_of (bytes_named zones.kept c.args.name))
    c.self.view_is
