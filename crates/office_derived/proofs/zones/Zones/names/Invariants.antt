use Rattle.std.proofs.Common.{◌≡◌, map, take}
use Rattle.office_derived.specs.declared.zones.KeptZone.{KeptZone}
use Rattle.office_derived.proofs.zones.Zones.names.Given as goal

-- the names so far
abbrev pub invariant-loop-kept : goal.invariant-loop-kept
invariant-loop-kept l =
    l.names.items ≡ map (λ (k : KeptZone). k.name) (take l.kept-index l.kept-items)
