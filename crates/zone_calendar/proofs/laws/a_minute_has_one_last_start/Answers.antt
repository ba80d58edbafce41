use Rattle.zone_calendar.specs.Starts.{is_counted, start_at}
use Rattle.std.proofs.Common.{◌≡◌, true}
use Rattle.zone_calendar.proofs.LastLemmas.{one_last}
use Rattle.zone_calendar.proofs.laws.a_minute_has_one_last_start.Goals as goal

pub returns : goal.returns
returns c = λ zone first step horizon minute start other.
    one_last (λ k. is_counted first step horizon k ≡ true) (start_at zone first step)
    minute start other
