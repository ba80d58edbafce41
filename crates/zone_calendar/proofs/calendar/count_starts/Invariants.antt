use Rattle.std.proofs.Common.{◌≡◌, ◌≤◌, ◌-◌, ℕ, ◌<◌, true, false}
use Rattle.zone_calendar.specs.Starts.{is_counted}
use Rattle.zone_calendar.proofs.calendar.count_starts.Given as goal

abbrev pub decreases-loop-low : goal.decreases-loop-low
decreases-loop-low l = l.high - l.low

abbrev pub invariant-loop-low : goal.invariant-loop-low
invariant-loop-low l =
    record {
      order : l.low ≤ l.high;
      within : l.high ≤ l.most;
      below : (k : ℕ) → k < l.low → is_counted l.first l.step l.horizon k ≡ true;
      end : is_counted l.first l.step l.horizon l.high ≡ false;
    }
