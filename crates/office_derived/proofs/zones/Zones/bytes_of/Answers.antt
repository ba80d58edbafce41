use Rattle.std.proofs.Common.{◌∙◌, sym, ap, Some, option_map}
use Rattle.std.specs.Option.{option_copied}
use Rattle.std.specs.List.{find}
use Rattle.std.specs.Str.{bytes_eq}
use Rattle.office_history.specs.Zones.{bytes_named}
use Rattle.office_derived.specs.Zones.{KeptZones}
use Rattle.office_derived.specs.declared.zones.KeptZone.{KeptZone}
use Rattle.office_derived.proofs.ZoneLemmas.{bytes_found}
use Rattle.office_derived.proofs.zones.Zones.bytes_of.Goals as goal

pub returns-in-Some : goal.returns-in-Some
returns-in-Some c =
    ap Some c.as_bytes.ensures
    ∙ ap (option_map (λ (k : KeptZone). k.bytes))
    (sym (ap option_copied c.in-Some.is) ∙ c.kept_as.ensures
    ∙ ap (find (λ (zone : KeptZone). bytes_eq zone.name c.args.name)) c.deref.ensures.value)
    ∙ bytes_found c.self.inside.kept.items c.args.name
    ∙ ap (λ (zones : KeptZones). bytes_named zones.kept c.args.name) c.self.view_is

pub returns-in-None : goal.returns-in-None
returns-in-None c =
    ap (option_map (λ (k : KeptZone). k.bytes))
    (sym (ap option_copied c.in-None.is) ∙ c.kept_as.ensures
    ∙ ap (find (λ (zone : KeptZone). bytes_eq zone.name c.args.name)) c.deref.ensures.value)
    ∙ bytes_found c.self.inside.kept.items c.args.name
    ∙ ap (λ (zones : KeptZones). bytes_named zones.kept c.args.name) c.self.view_is
