use Rattle.std.proofs.Common.{◌<◌, length, take}
use Rattle.plain_fields.proofs.ReadLemmas.{HasRead}
use Rattle.plain_fields.proofs.ends.field_ends.Given as goal

-- the ends of the fields so far are put
abbrev pub invariant-loop-at : goal.invariant-loop-at
invariant-loop-at l = record {
  read : HasRead l.text l.from (take l.count l.ends) l.at;
  few : l.count < length l.ends;
}
