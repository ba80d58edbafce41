use Rattle.std.proofs.Common.{◌≡◌}
use Rattle.office_report.proofs.LineLemmas.{Leads}
use Rattle.office_report.proofs.budgets.lines_of.Given as goal

-- the lines so far, and then those of the SLOs that are left, are those of all
abbrev pub invariant-loop-name : goal.invariant-loop-name
invariant-loop-name l =
    record {
      office : l.core.office ≡ l.fn.core.office;
      pending : l.core.pending ≡ l.fn.core.pending;
      told : Leads l.states l.fn.core.office l.at l.names l.name-index l.lines.items;
    }
