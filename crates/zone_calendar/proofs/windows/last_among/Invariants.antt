use Rattle.std.proofs.Common.{◌-◌}
use Rattle.zone_calendar.specs.Window.{IsLastAmong}
use Rattle.zone_calendar.proofs.windows.last_among.Given as goal

-- the last start so far
abbrev pub invariant-loop-k : goal.invariant-loop-k
invariant-loop-k l = IsLastAmong l.zone l.first l.step (l.count - 6) l.k l.minute l.last
