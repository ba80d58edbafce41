use Rattle.std.proofs.Common.{◌≢◌, take}
use Rattle.std.specs.List.{AllByRecursion}
use Rattle.office_history.specs.Alerts.{Watch}
use Rattle.kept_lines.proofs.apply_plan.is_among.Given as goal

-- the alerts so far are others
abbrev pub invariant-loop-other : goal.invariant-loop-other
invariant-loop-other l =
    AllByRecursion (λ (other : Watch). other ≢ l.watch) (take l.other-index l.watches)
