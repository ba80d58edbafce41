use Rattle.std.proofs.Common.{◌≡◌, drop}
use Rattle.office_history.specs.KnownZones.{is_among}
use Rattle.definition_verdict.proofs.zones.is_among.Given as goal

-- none so far is that zone
abbrev pub invariant-loop-zone : goal.invariant-loop-zone
invariant-loop-zone l = is_among (drop l.zone-index l.zones) l.name ≡ is_among l.zones l.name
