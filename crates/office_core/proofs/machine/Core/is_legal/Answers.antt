use Rattle.std.proofs.Common.{IfSome, ◌≤◌, subst}
use Rattle.slo_limits.specs.declared.TheConstants as most
use Rattle.office_history.specs.History.{present}
use Rattle.office_core.specs.Seen.{Machine}
use Rattle.record_form.specs.Ranges.{FitsRecord}
use Rattle.office_core.specs.Machine.{office_of}
use Rattle.office_core.proofs.MachineLemmas.{pending_fits, readable}
use Rattle.office_core.proofs.machine.Core.is_legal.Goals as goal

pub returns-clause-present : goal.returns-clause-present
returns-clause-present c =
    subst (λ (m : Machine). present m.office ≤ most.MAX_MINUTE) c.self.view_is
    (readable c.self.inside.derived c.self.inside.records.history c.self.invariant.sound
    c.fit.ensures)

pub returns-clause-pending : goal.returns-clause-pending
returns-clause-pending c =
    subst (λ (m : Machine). IfSome m.pending FitsRecord) c.self.view_is
    (pending_fits c.self.inside.derived c.self.inside.lines (office_of c.self.inside.derived
    c.self.inside.records.history) _ _ c.self.inside.pending c.self.invariant.ready)
