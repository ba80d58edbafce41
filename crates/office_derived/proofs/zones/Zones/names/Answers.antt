use Rattle.std.proofs.Common.{◌∙◌, ℕ, List, ap, map}
use Rattle.std.proofs.lemmas.List.{take_all}
use Rattle.office_derived.specs.Zones.{KeptZones}
use Rattle.office_derived.specs.declared.zones.KeptZone.{KeptZone}
use Rattle.office_derived.proofs.ZoneLemmas.{names_of}
use Rattle.office_derived.proofs.zones.Zones.names.Goals as goal

pub returns : goal.returns
returns c =
    c.loop-kept.invariant
    ∙ ap (map (λ (k : KeptZone). k.name)) (take_all c.loop-kept.kept-index
    c.deref-kept-items.result.now c.loop-kept-test.false ∙ c.deref-kept-items.ensures.value)
    ∙ names_of c.self.inside.kept.items
    ∙ ap (λ (zones : KeptZones). map (λ (kept : List ℕ × List ℕ). kept.0) zones.kept) c.self.view_is
