use Rattle.std.proofs.Common.{subst}
use Rattle.kept_lines.specs.Known.{AllKnow}
use Rattle.office_core.specs.Lent.{CountTheSame}
use Rattle.office_core.specs.Seen.{Machine}
use Rattle.office_core.specs.SumsSeen.{sums_seen}
use Rattle.office_core.proofs.machine.Core.prepare.Goals as goal

pub returns-clause-sums : goal.returns-clause-sums
returns-clause-sums c =
    subst (λ (m : Machine).
    CountTheSame m.sums (sums_seen c.judge_and_make_room-verdict.new.derived.catalog
    c.judge_and_make_room-verdict.new.derived.sums))
    c.self.view_is c.judge_and_make_room-verdict.ensures.sums

pub returns-clause-know : goal.returns-clause-know
returns-clause-know c =
    subst (λ (m : Machine). AllKnow m.lines c.judge_and_make_room-verdict.new.lines.kept)
    c.self.view_is c.judge_and_make_room-verdict.ensures.know
