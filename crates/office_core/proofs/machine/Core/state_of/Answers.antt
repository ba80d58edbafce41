use Rattle.std.proofs.Common.{subst}
use Rattle.kept_lines.specs.Known.{AllKnow}
use Rattle.office_core.specs.Seen.{Machine}
use Rattle.office_core.proofs.machine.Core.state_of.Goals as goal

pub returns-clause-know : goal.returns-clause-know
returns-clause-know c =
    subst (λ (m : Machine). AllKnow m.lines c.state_of.new.lines.kept) c.self.view_is
    c.state_of.ensures.know
