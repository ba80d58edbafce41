use Rattle.std.proofs.Common.{◌≡◌, ◌≤◌, ◌-◌, length, take, drop, Less, Greater}
use Rattle.std.specs.List.{AllByRecursion}
use Rattle.slo_catalog.specs.Places.{to}
use Rattle.slo_catalog.proofs.members.place_of.Given as goal

abbrev pub decreases-loop-low : goal.decreases-loop-low
decreases-loop-low l = l.high - l.low

-- those below `low` come before the kind and name, and those from `high` on behind them
abbrev pub invariant-loop-low : goal.invariant-loop-low
invariant-loop-low l =
    record {
      order : l.low ≤ l.high;
      within : l.high ≤ length l.members;
      ahead : AllByRecursion (λ o. to l.kind l.name o ≡ Less) (take l.low l.members);
      behind : AllByRecursion (λ o. to l.kind l.name o ≡ Greater) (drop l.high l.members);
    }
