use Rattle.std.proofs.Common.{◌≡◌, ◌/◌, ℕ, nat_lt, if◌then◌else◌}
use Rattle.window_sums.specs.Slices.{counts_of, counts_without, has_day}
use Rattle.window_sums.proofs.window_sums.WindowSums.clear.Given as goal

-- the days so far have nothing in these slices, the others have what they had
abbrev pub invariant-loop-day : goal.invariant-loop-day
invariant-loop-day l = record {
  method : l.self.method ≡ l.fn.self.method;
  counts : (k : ℕ) → counts_of l.self k ≡ (if nat_lt (k / l.slices) l.day
      then counts_without l.fn.self l.first l.end k else counts_of l.fn.self k);
  days : (d : ℕ) → has_day l.self d ≡ has_day l.fn.self d;
}
