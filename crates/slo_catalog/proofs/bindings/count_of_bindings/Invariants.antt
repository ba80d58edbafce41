use Rattle.std.proofs.Common.{◌≡◌, take}
use Rattle.std.specs.Prelude.{sum_by}
use Rattle.slo_catalog.proofs.CountLemmas.{count_at}
use Rattle.slo_catalog.proofs.bindings.count_of_bindings.Given as goal

-- the bindings of the objects so far
abbrev pub invariant-loop-member : goal.invariant-loop-member
invariant-loop-member l =
    l.total ≡ sum_by (count_at l.members) (take l.member-index l.members)
