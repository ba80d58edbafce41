use Rattle.std.proofs.Common.{◌≡◌, ◌+◌, drop}
use Rattle.office_history.specs.Lists.{first_some}
use Rattle.office_history.specs.Batches.{rows_faults}
use Rattle.sample_changes.proofs.faults.batch_fault.Given as goal

-- no row so far breaks a rule: what the rows behind them break is what all break
abbrev pub invariant-loop-place : goal.invariant-loop-place
invariant-loop-place l =
    first_some (rows_faults l.upgraded l.origin
    l.moment l.catalog (l.place + 1) (drop l.place l.rows) (drop l.place l.verdicts))
    ≡ first_some (rows_faults l.upgraded l.origin l.moment l.catalog 1 l.rows l.verdicts)
