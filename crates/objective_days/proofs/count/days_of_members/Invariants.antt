use Rattle.std.proofs.Common.{◌≡◌, ◌≤◌, ◌*◌, ◌^◌, take}
use Rattle.office_history.specs.Batches.{objective_days}
use Rattle.objective_days.proofs.count.days_of_members.Given as goal

-- the pairs of the members so far
pub record SoFar (P Q : Type 0) : Type 0 where
  pub counted : P
  pub few : Q

abbrev pub invariant-loop-member : goal.invariant-loop-member
invariant-loop-member l = SoFar
    (l.total ≡ objective_days (take l.member-index l.members) l.book.rows)
    (l.total ≤ l.member-index * 2 ^ 35)
