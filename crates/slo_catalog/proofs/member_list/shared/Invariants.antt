use Rattle.std.proofs.Common.{◌≡◌, ◌++◌, drop}
use Rattle.slo_catalog.proofs.member_list.shared.Given as goal

abbrev pub invariant-loop-member : goal.invariant-loop-member
invariant-loop-member l = l.shared.items ++ drop l.member-index l.members ≡ l.members
