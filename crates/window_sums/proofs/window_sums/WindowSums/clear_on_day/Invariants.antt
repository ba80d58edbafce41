use Rattle.std.proofs.Common.{◌≡◌, ◌≤◌, ℕ, max}
use Rattle.window_sums.specs.Slices.{counts_of, counts_without, has_day}
use Rattle.window_sums.proofs.window_sums.WindowSums.clear_on_day.Given as goal

-- the slices of the day so far have nothing
abbrev pub invariant-loop-slice : goal.invariant-loop-slice
invariant-loop-slice l = record {
  method : l.self.method ≡ l.fn.self.method;
  counts : (k : ℕ) → counts_of l.self k
      ≡ counts_without l.fn.self (max l.start l.first) l.slice k;
  within : l.slice ≤ max l.until (max l.start l.first);
  days : (d : ℕ) → has_day l.self d ≡ has_day l.fn.self d;
}
