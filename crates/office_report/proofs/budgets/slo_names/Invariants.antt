use Rattle.std.proofs.Common.{◌≡◌, ◌++◌, drop}
use Rattle.office_report.specs.Report.{slo_names}
use Rattle.office_report.proofs.budgets.slo_names.Given as goal

-- the names so far and those of the members that are left are those of all
abbrev pub invariant-loop-member : goal.invariant-loop-member
invariant-loop-member l =
    l.names.items ++ slo_names (drop l.member-index l.member-items) ≡ slo_names l.catalog
