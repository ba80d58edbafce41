use Rattle.std.proofs.Common.{◌≡◌, ◌+◌, ◌-◌, ◌≤◌, length, drop}
use Rattle.entry_records.specs.Feeds.{fed, room_behind, that_fit}
use Rattle.entry_records.specs.Kept.{records_in}
use Rattle.entry_records.proofs.feed.fed_from.Given as goal

-- those that were counted and those that go into the feed behind them
pub record SoFar (P Q : Type 0) : Type 0 where
  pub counted : P
  pub within : Q

abbrev pub invariant-loop-next : goal.invariant-loop-next
invariant-loop-next l = SoFar
    (l.count + length (that_fit (room_behind l.size)
    (drop (l.fn.from + l.count) (records_in l.fn.bytes)))
    ≡ length (fed (drop l.fn.from (records_in l.fn.bytes))))
    (l.fn.from + l.count ≤ length l.fn.ends)

abbrev pub decreases-loop-next : goal.decreases-loop-next
decreases-loop-next l = length l.fn.ends - (l.fn.from + l.count)
