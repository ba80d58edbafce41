use Rattle.std.proofs.Common.{◌≡◌, drop}
use Rattle.std.specs.List.{find}
use Rattle.std.specs.Str.{bytes_eq}
use Rattle.office_derived.specs.declared.zones.KeptZone.{KeptZone}
use Rattle.office_derived.proofs.zones.kept_as.Given as goal

-- none so far has that name
abbrev pub invariant-loop-zone : goal.invariant-loop-zone
invariant-loop-zone l = find (λ (zone : KeptZone). bytes_eq zone.name l.name)
    (drop l.zone-index l.kept) ≡ find (λ (zone : KeptZone). bytes_eq zone.name l.name) l.kept
