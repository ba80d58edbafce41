use Rattle.std.proofs.Common.{rules}
use Rattle.office_doors.specs.Books.{HandsOut, Moves}
use Rattle.visit_workers.proofs.Chains.{told_all_back, works_one}
use Rattle.visit_workers.proofs.visits.serve_next.Goals as goal

-- No answer names the session: a visit that is handed back without one leaves its goal open.
pub returns-in-Ok-Some-clause-works : goal.returns-in-Ok-Some-clause-works
returns-in-Ok-Some-clause-works g c =
    let handed : Moves (HandsOut c.in-Ok-Some.visit) (g.A.Door.told c.args.door.now)
    (g.A.Door.told c.next.new.self) = search rules in
    search (rules, handed, works_one)

pub returns-in-Ok-Some-clause-back : goal.returns-in-Ok-Some-clause-back
returns-in-Ok-Some-clause-back g c =
    let handed : Moves (HandsOut c.in-Ok-Some.visit) (g.A.Door.told c.args.door.now)
    (g.A.Door.told c.next.new.self) = search rules in
    search (rules, handed, told_all_back)
