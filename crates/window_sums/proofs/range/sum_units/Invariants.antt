use Rattle.std.proofs.Common.{◌≡◌, ◌≤◌, ◌-◌, ◌+◌, ◌*◌}
use Rattle.slo_terms.specs.Sums.{leaves_over}
use Rattle.sum_pages.specs.Pages.{leaf_at}
use Rattle.window_sums.specs.Ranges.{slots_of}
use Rattle.window_sums.proofs.range.sum_units.Given as goal

abbrev pub invariant-loop-at : goal.invariant-loop-at
invariant-loop-at g l = record {
  sum : l.sum ≡ leaves_over (leaf_at l.fn.pages)
      (l.fn.from * slots_of l.fn.unit l.fn.pages.per_hour)
      ((l.at - l.fn.from) * slots_of l.fn.unit l.fn.pages.per_hour);
  within : l.at - l.fn.from ≤ l.fn.to - l.fn.from;
  steps : l.steps ≤ l.fn.steps + (l.at - l.fn.from);
}
