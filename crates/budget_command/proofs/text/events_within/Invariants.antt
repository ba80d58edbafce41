use Rattle.std.proofs.Common.{◌≡◌, ◌≤◌, ◌*◌, ◌-◌, length, sum_by, take}
use Rattle.slo_terms.specs.Sums.{share_within}
use Rattle.budget_command.specs.Records.{good_of, total_of}
use Rattle.slo_limits.specs.declared.TheConstants.{MAX_AMOUNT}
use Rattle.budget_command.proofs.text.events_within.Given as goal

-- the events of the rows so far
abbrev pub invariant-rows : goal.invariant-rows
invariant-rows l = record {
  place : l.place ≤ length l.book.rows;
  good : l.good ≡ sum_by (share_within (λ r. r.minute) good_of l.from l.to)
      (take l.place l.book.rows);
  total : l.total ≡ sum_by (share_within (λ r. r.minute) total_of l.from l.to)
      (take l.place l.book.rows);
  part : l.good ≤ l.total;
  bound : l.total ≤ l.place * MAX_AMOUNT;
}

abbrev pub decreases-rows : goal.decreases-rows
decreases-rows l = length l.book.rows - l.place
