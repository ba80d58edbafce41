use Rattle.std.proofs.Common.{◌-◌, ◌≡◌, ◌≤◌, ℕ, false}
use Rattle.window_sums.specs.Shares.{IsSumOf}
use Rattle.window_sums.specs.Slices.{has_day}
use Rattle.kept_sums.specs.Sums.{shares_by}
use Rattle.kept_sums.specs.Walks.{followed}
use Rattle.kept_sums.proofs.range.follow_lifting.Given as goal

-- the rows of the minutes so far count again
abbrev pub invariant-loop-from : goal.invariant-loop-from
invariant-loop-from l = record {
  begun : l.value.from ≤ l.from;
  within : l.from ≤ l.value.to;
  counted : IsSumOf l.sums
      (shares_by (followed l.measure l.book.exclusions l.value false l.from) l.book.rows);
  method : l.sums.method ≡ l.fn.sums.method;
  days : (day : ℕ) → has_day l.sums day ≡ has_day l.fn.sums day;
}

abbrev pub decreases-loop-from : goal.decreases-loop-from
decreases-loop-from l = l.value.to - l.from
