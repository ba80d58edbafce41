use Rattle.std.proofs.Common.{◌≡◌, ◌≤◌, ◌-◌, ◌+◌}
use Rattle.sum_pages.specs.Pages.{leaf_at}
use Rattle.window_sums.specs.Ranges.{slots_of}
use Rattle.window_sums.proofs.EmptinessFacts.{den_of}
use Rattle.window_sums.proofs.emptiness.are_empty.Given as goal

abbrev pub invariant-loop-at : goal.invariant-loop-at
invariant-loop-at g l = record {
  none : den_of (leaf_at l.fn.pages) l.at l.fn.to (slots_of l.fn.unit l.fn.pages.per_hour) ≡ 0;
  within : l.fn.to - l.at ≤ l.fn.to - l.fn.from;
  steps : l.steps ≤ l.fn.steps + (l.fn.to - l.at);
}
