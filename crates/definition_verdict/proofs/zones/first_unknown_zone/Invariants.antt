use Rattle.std.proofs.Common.{◌≡◌, drop}
use Rattle.office_history.specs.KnownZones.{first_unknown_zone}
use Rattle.definition_verdict.proofs.zones.first_unknown_zone.Given as goal

-- the objects so far name no unknown zone
abbrev pub invariant-loop-object : goal.invariant-loop-object
invariant-loop-object l = first_unknown_zone l.zones (drop l.object-index l.objects)
    ≡ first_unknown_zone l.zones l.objects
